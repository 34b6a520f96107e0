pub mod Firsts
pub mod Lanes
pub mod Filled
