pub mod Resuming
pub mod Parts
