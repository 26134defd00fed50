pub mod Made
pub mod Levels
pub mod Behind
pub mod Kept
pub mod Worked
