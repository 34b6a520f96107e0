pub mod Follows
pub mod InTurn
pub mod Last
