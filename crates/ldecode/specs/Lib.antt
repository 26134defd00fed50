pub mod Decoding
pub mod Parts
pub mod PartStatus
pub mod Headline
pub mod Watching
pub mod Calls
pub mod Together
