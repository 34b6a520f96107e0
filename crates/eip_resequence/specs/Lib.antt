pub mod Order
pub mod Packing
pub mod Unpacking
