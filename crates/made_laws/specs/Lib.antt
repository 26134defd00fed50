pub mod BusTold
pub mod LineTold
pub mod LineLevels
pub mod laws
