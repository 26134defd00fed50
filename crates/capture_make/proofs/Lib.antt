pub mod Numbers
pub mod Blocks
pub mod Giving
