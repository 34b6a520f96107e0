pub mod Logs
pub mod Doing
pub mod Looking
pub mod Facts
pub mod Entering
pub mod Turning
pub mod Regexes
pub mod Sending
