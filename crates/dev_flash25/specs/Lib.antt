pub mod Flash
pub mod Held
pub mod Texts
pub mod Opening
pub mod Rows
pub mod laws
