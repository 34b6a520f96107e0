pub mod Patterns
pub mod Reading
pub mod Builds
pub mod Spelling
pub mod Meaning
