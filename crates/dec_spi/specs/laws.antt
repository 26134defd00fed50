-- The machine's view, and lemmas that laws of machines cite.
pub mod Machine
pub mod Lines
pub mod WordLaws
pub mod PushLaws
pub mod MetLaws
pub mod GivenLaws
pub mod SpiSound
pub mod SpiLaws
pub mod MachineLaws
