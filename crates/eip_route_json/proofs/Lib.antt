pub mod Filled
pub mod Held
pub mod Items
pub mod Walked
pub mod Validity
