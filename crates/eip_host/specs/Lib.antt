pub mod Known
pub mod ReaderLinks
pub mod Networks
pub mod Outputs
pub mod Paths
pub mod Asked
pub mod Listings
pub mod Words
