pub mod Pairs
pub mod Places
pub mod Shared
pub mod Headers
pub mod Ends
pub mod Limits
