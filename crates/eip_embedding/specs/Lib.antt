pub mod Handed
pub mod Kinds
pub mod Seals
pub mod Tills
pub mod Words
