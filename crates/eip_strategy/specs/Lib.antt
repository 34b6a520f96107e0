pub mod Adding
pub mod Answers
pub mod Batches
pub mod Folding
pub mod Groups
pub mod Growing
pub mod Undoing
