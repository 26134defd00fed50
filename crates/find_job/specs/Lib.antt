pub mod Stopping
pub mod Finding
