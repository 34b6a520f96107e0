pub mod Courses
pub mod Falls
pub mod First
pub mod Kept
pub mod Weights
