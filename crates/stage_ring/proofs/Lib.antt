pub mod SingleLemmas
pub mod PassLemmas
