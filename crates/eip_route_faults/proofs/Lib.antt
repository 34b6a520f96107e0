pub mod Lists
pub mod Quiet
pub mod Sited
pub mod Starved
pub mod Walking
