pub mod Draws
pub mod Items
pub mod Sources
pub mod Routes
pub mod Example
