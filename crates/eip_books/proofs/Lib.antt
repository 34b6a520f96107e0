pub use Rattle.eip_rows.proofs.rows.Rows.TheSendSync as RowsSend
pub mod Waking
pub mod Rousing
pub mod OpenGroups
pub mod OwnedCalls
