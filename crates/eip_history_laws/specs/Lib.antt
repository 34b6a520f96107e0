pub mod Folds
pub mod Statements
