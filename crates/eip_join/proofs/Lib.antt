pub mod Ends
pub mod Lookups
pub mod Standing
pub mod Indexed
mod Rows
