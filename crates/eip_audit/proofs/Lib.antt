pub mod Behind
pub mod Entering
pub mod Hands
pub mod Judged
pub mod OwnEntries
pub mod SourceStates
pub mod Walk
