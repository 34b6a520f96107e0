pub mod Plain
pub mod Nest
pub mod Faults
pub mod Goals
pub mod Valid
