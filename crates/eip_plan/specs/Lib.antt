pub mod Simple
pub mod Plan
pub mod Rows
