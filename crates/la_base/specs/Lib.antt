pub mod Samples
pub mod Runs
pub mod Naming
pub mod Kinds
