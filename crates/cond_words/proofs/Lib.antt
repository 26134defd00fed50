pub mod PinLemmas
pub mod BoundLemmas
pub mod HoldLemmas
pub mod WordLemmas
