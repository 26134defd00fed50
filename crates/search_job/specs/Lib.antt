pub mod Chosen
pub mod Searching
