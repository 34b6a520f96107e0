pub mod Arrivals
pub mod Gathered
