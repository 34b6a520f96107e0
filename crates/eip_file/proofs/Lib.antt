pub mod ItemLaws
pub mod ListingLaws
