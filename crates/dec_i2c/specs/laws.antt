-- The machine's view, and lemmas that laws of machines cite.
pub mod Machine
pub mod TenLaws
pub mod ClockLaws
pub mod PushLaws
pub mod MetLaws
pub mod GivenLaws
pub mod SoundLaws
pub mod I2cLaws
pub mod MachineLaws
