pub mod Items
pub mod Listings
pub mod Commits
pub mod Sends
