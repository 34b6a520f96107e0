pub mod Lines
pub mod Kept
pub mod Reading
pub mod Dump
pub mod Rows
