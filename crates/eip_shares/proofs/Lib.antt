pub mod Dealt
pub mod Woven
