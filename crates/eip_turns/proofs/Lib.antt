mod Falling
pub mod Faulting
mod Firsts
pub mod Keeping
pub mod Trying
mod Turning
mod Weighing
