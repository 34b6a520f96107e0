pub use Rattle.eip_core.proofs.Compose as DrainCompose
pub use Rattle.eip_shared.proofs.Sending
pub mod Done
pub mod Handed
pub mod Told
pub mod Following
pub mod Stepping
