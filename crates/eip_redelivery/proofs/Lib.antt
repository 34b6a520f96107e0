pub mod Sleepers
mod Rows
