mod Asked
mod InTurn
mod Gathering
pub mod Resequenced
