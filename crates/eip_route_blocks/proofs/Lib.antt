pub mod Appended
pub mod Groups
pub mod Places
pub mod Held
pub mod Items
