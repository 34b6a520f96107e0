pub use Rattle.eip_books.proofs.RowsSend
pub mod Forcing
