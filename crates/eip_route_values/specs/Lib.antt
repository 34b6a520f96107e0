pub mod Leaves
pub mod Parts
pub mod Nesting
pub mod Sets
pub mod Built
pub mod Taken
