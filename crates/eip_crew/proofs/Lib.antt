pub use Rattle.eip_worker.proofs.DrainCompose
pub use Rattle.eip_worker.proofs.Sending as SharedSending
pub mod Lists
pub mod Seated
pub mod Sending
pub mod Working
