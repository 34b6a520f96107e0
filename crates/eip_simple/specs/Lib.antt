pub mod Views
pub mod Found
pub mod Values
pub mod Orders
pub mod Matching
pub mod Operators
pub mod Holding
pub mod Rows
