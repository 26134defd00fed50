-- Lemmas that laws of clocks cite.
pub mod Held
pub mod RowLaws
pub mod GivenLaws
pub mod KnowingLaws
