-- Lemmas that laws of thermometers cite.
pub mod Held
pub mod ByteLaws
pub mod GivenLaws
pub mod KnowingLaws
