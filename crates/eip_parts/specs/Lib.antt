pub mod Effects
pub mod Knowing
