pub mod Listings
pub mod Histories
pub mod Blocks
pub mod Stores
pub mod Views
