pub mod Outcomes
pub mod Parts
pub mod Steps
pub mod Blocks
pub mod Laws
