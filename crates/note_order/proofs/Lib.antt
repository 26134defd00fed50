pub mod SortLemmas
pub mod Entries
