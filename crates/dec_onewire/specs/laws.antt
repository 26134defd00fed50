-- The machines' view, and lemmas that laws of machines cite.
pub mod LinkMachine
pub mod LinkPushed
pub mod LinkSound
pub mod LinkLaws
pub mod LinkMachineLaws
pub mod NetMachine
pub mod CutLaws
pub mod NetPushed
pub mod NetSound
pub mod NetLaws
