pub mod Consuming
