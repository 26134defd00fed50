pub mod Making
pub mod Tallies
pub mod MadeFeeding
pub mod MadeTrees
pub mod Sums
