pub mod Counting
pub mod Driven
mod Treading
mod Striding
mod Trodden
pub mod Ordered
mod Joining
mod AllCounted
mod Followed
