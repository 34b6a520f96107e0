pub mod Turns
mod Rows
