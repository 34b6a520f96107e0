pub mod Ends
pub mod Faulty
pub mod Listing
mod Rows
