pub mod Links
pub mod Known
pub mod Lines
pub mod Readers
pub mod Sources
pub mod Lanes
pub mod MemoryLinks
