pub mod Midi
pub mod Texts
pub mod Opening
pub mod Rows
pub mod RealTime
pub mod Kept
pub mod laws
