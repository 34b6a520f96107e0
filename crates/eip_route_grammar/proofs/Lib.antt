pub mod Places
pub mod Segments
pub mod Shapes
