pub mod BindLemmas
pub mod RowLemmas
pub mod BoundLemmas
