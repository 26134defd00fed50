-- Lemmas that laws of machines cite.
pub mod WalkLaws
pub mod CutLaws
pub mod Steps
pub mod TransactionPromises
pub mod TransactionLaws
pub mod Transacting
pub mod Walking
