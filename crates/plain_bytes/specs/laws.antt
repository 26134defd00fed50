-- Lemmas that laws of plain values cite.
pub mod FormLaws
