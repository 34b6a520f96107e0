pub mod Exchanges
pub mod Groups
pub mod Joining
