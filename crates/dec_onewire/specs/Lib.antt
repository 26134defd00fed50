pub mod Link
pub mod Shapes
pub mod Net
pub mod Texts
pub mod Opening
pub mod Rows
pub mod Kept
pub mod laws
