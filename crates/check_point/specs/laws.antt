-- Lemmas on checks.
pub mod EntryLaws
