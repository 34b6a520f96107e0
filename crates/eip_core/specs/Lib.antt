pub use Rattle.eip_hub.specs.Ticket
pub use Rattle.eip_hub.specs.View
pub mod Doors
pub mod Outside
pub mod Drain
pub mod Served
pub mod Example
