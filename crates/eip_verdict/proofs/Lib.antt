pub mod Lists
pub mod Deciding
pub mod OneAnswer
pub mod Keeping
pub mod Wrongs
pub mod Shown
