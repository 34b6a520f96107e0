pub mod View
pub mod Journal
