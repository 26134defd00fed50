pub mod Carried
pub mod Seen
pub mod Held
pub mod Kept
