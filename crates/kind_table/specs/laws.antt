-- Lemmas that laws cite.
pub mod RangeLaws
