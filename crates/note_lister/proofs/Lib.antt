pub mod Settling
pub mod Seeing
mod PushLemmas
pub mod TakingLemmas
