pub mod First
pub mod Coming
