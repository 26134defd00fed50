pub mod Members
pub mod Mending
