-- What is kept packet by packet, and lemmas that laws of machines cite.
pub mod Steps
pub mod Pushed
pub mod Sound
pub mod MidiLaws
