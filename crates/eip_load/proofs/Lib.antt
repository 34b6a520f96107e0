pub mod ItemLaws
pub mod SourceLaws
