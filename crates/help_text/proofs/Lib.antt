pub mod Options
pub mod Telling
