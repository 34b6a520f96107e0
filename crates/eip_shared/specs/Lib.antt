pub mod Deeds
pub mod Shared
pub mod Turns
pub mod Looks
