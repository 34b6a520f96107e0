pub mod FirstTries
pub mod GoingOns
pub mod Queues
pub mod SendTries
