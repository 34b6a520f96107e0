pub mod Lists
pub mod Keeps
pub mod SameHeld
pub mod OneMore
