-- Lemmas that laws of machines cite.
pub mod AltLaws
pub mod WalkLaws
pub mod HeldLaws
pub mod EventDecoders
pub mod EventWalks
pub mod EdgeLaws
