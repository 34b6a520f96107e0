pub mod Segments
mod Rows
