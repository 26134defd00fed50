pub mod Fronts
pub mod Adding
pub mod Growing
pub mod Naming
pub mod Asking
pub mod BlockLemmas
pub mod Bounds
