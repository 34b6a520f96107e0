pub mod Sites
pub mod Values
