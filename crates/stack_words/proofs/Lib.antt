pub mod ListLemmas
pub mod Refusals
pub mod LinkLemmas
pub mod OptionLemmas
pub mod SoundLemmas
pub mod ForestLemmas
