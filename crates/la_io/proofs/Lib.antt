pub mod Buffering
pub mod Bytes
pub mod Calls
pub mod Fronts
mod Filling
mod Dropping
mod Pieces
