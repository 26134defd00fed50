-- The machine's view, and lemmas that laws of machines cite.
pub mod Machine
pub mod Looks
pub mod Starts
pub mod Steps
pub mod Grown
pub mod Sound
pub mod Numbers
pub mod Holding
pub mod LineLaws
pub mod MachineLaws
