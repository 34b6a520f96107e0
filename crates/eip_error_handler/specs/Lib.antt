pub mod Clauses
pub mod Redelivery
