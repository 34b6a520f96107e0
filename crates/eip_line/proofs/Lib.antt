pub mod LineLaws
pub mod ReaderLaws
pub mod SourceLaws
pub mod MemoryLaws
