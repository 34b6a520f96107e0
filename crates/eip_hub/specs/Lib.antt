pub use Rattle.eip_books.specs.View
pub use Rattle.eip_books.specs.contracts.books.Books
pub use Rattle.eip_books.specs.declared.ticket.Ticket
pub mod Events
