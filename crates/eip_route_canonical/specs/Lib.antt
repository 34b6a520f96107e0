pub mod Trees
pub mod Canonical
