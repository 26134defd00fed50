pub mod ListLemmas
pub mod WholeRows
