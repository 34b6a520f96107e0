pub mod Seen
pub mod Formed
