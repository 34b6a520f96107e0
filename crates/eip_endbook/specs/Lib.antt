pub mod Names
pub mod Totals
pub mod Texts
