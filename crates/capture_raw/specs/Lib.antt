pub mod Raw
pub mod Masks
pub mod Pairs
pub mod Neighbours
pub mod Filling
pub mod Reader
pub mod Laws
