pub mod Blanks
pub mod Faults
pub mod Recipients
