pub mod Answering
pub mod Compose
pub mod Dealing
