pub mod Adding
pub mod Registering
