pub mod ReadLemmas
pub mod NumberLemmas
pub mod FrontLemmas
