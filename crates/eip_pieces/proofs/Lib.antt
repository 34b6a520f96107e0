pub mod Cutting
pub mod Unique
mod Rows
