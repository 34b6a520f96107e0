pub mod Tries
pub mod FirstTry
pub mod Answered
pub mod Rest
