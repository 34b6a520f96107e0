pub mod Again
pub mod Growing
pub mod Parsing
pub mod Ranks
pub mod Rows
pub mod Sorting
