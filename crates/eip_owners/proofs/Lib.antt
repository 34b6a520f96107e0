pub mod Acts
pub mod Parts
pub mod Owned
pub mod Hands
pub mod Answers
pub mod Pulled
pub mod Home
