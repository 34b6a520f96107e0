pub mod Batching
pub mod Behind
pub mod Distinct
pub mod Elements
pub mod Ends
pub mod Faulty
pub mod Finding
pub mod Fitting
pub mod Numbering
mod Rows
