pub mod Arriving
pub mod Backwards
