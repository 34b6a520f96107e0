pub mod Causes
pub mod Keys
pub mod Known
pub mod Objects
pub mod Paths
pub mod Table
pub mod Texts
