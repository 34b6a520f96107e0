pub mod Opened
pub mod Floats
pub mod Numbered
