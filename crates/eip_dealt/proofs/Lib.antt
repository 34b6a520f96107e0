pub mod Places
pub mod Parts
pub mod Owning
pub mod Lanes
pub mod Inlets
