pub mod Least
pub mod Standing
pub mod Lookups
mod Rows
