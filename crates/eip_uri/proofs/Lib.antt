pub mod Again
pub mod AgainForms
pub mod Gathering
pub mod Judging
pub mod Ranged
pub mod Showings
pub mod Values
