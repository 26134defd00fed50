-- Lemmas that laws of the device cite.
pub mod Held
pub mod EepromLaws
pub mod HeldLaws
pub mod KnowingLaws
