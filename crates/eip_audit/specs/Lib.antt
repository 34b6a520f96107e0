pub mod Judging
pub mod Dumped
