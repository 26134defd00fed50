pub mod Bounds
pub mod Marks
pub mod Merging
pub mod Limits
pub mod Places
pub mod Queues
pub mod Held
