pub mod Shelves
pub mod Watches
