pub mod Masks
pub mod Sets
mod Passing
pub mod Runs
pub mod StandingLemmas
pub mod ChainLemmas
mod AllStops
mod WatchLemmas
pub mod PairLemmas
pub mod PairSets
pub mod Exact
pub mod Timers
pub mod FallLemmas
