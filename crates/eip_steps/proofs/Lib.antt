mod Keys
pub mod Within
