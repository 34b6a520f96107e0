pub mod Objects
pub mod Loops
