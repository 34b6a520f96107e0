pub mod Doors
pub mod Outlets
