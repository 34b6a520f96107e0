pub mod Verdicts
pub mod Statements
pub mod Example
pub mod Same
