-- What is kept packet by packet, and lemmas that laws of machines cite.
pub mod Held
pub mod ByteLaws
pub mod SoundLaws
pub mod ProbeLaws
pub mod KeptLaws
