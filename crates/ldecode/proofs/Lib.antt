pub mod Working
pub mod Running
pub mod Begun
pub mod Headlines
mod Opened
mod PartTold
mod Decoding
mod Shelving
mod Viewing
mod Together
