pub mod Finding
pub mod Patterns
pub mod Among
pub mod Bytes
pub mod Ranges
