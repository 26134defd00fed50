pub mod Rows
pub mod Inputs
pub mod Acts
pub mod Sendings
pub mod Boxes
pub mod Stages
