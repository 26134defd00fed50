pub mod Chain
pub mod Frames
pub mod Ranges
pub mod Texts
pub mod Opening
pub mod Rows
pub mod Kept
pub mod laws
