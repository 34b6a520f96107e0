mod Beginning
pub mod Settings
pub mod Comings
pub mod There
