pub mod KnownLaws
pub mod PortLaws
pub mod ListingLaws
