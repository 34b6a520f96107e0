mod Pairs
mod Said
mod Verbs
mod Paths
pub mod Commands
