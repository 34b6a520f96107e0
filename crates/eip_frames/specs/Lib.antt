pub mod Fits
pub mod Fate
pub mod Targets
