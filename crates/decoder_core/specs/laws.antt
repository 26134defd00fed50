-- Lemmas that laws of machines cite.
pub mod OutLaws
pub mod CountedLaws
pub mod PacketLaws
pub mod OneDriver
pub mod KeepLaws
