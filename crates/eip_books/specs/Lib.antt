pub mod View
pub mod Facts
pub mod Owned
