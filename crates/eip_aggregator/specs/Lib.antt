pub mod Arrivals
pub mod Keys
pub mod Tables
