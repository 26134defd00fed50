pub mod Probe
pub mod Texts
pub mod Opening
pub mod Rows
pub mod Kept
pub mod laws
