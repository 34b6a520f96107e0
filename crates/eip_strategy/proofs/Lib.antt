pub mod Bounded
pub mod Checked
pub mod Groups
pub mod InPlace
pub mod Lengths
pub mod Numbers
pub mod Packed
pub mod Pairs
pub mod Rows
pub mod Says
mod Undone
