pub mod Orders
pub mod LimitLemmas
pub mod MergeLemmas
pub mod PutLemmas
pub mod QueueLemmas
pub mod RunLemmas
pub mod HoldLemmas
pub mod GivingLemmas
