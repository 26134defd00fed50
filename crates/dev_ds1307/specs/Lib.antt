pub mod Clock
pub mod Opening
pub mod Texts
pub mod Rows
pub mod Kept
pub mod laws
