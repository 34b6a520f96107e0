pub mod Filed
pub mod Rows
