pub mod FirstFault
pub mod Options
pub mod Printed
pub mod Ranges
pub mod Reading
pub mod Showing
pub mod Sides
pub mod Inlets
