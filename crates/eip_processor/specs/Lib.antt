pub mod Processed
pub mod Registered
