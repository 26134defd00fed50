pub mod Trees
pub mod Ties
pub mod Wires
pub mod Runs
pub mod Stages
