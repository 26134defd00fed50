pub mod Phases
pub mod Devices
pub mod Bytes
pub mod Pointers
pub mod Examples
pub mod Kept
pub mod laws
