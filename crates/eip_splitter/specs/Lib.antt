pub mod Batches
pub mod Faults
pub mod Parts
pub mod Splitting
