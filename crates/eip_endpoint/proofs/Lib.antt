pub mod Told
pub mod LaneLaws
pub mod InletLaws
pub mod OutsideLaws
pub mod Named
pub mod Answering
pub mod ByteOrder
