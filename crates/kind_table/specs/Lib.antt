pub mod Kinds
pub mod Values
pub mod Whole
pub mod laws
