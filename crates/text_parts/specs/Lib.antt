pub mod Reading
pub mod Places
pub mod Chains
pub mod Numbers
