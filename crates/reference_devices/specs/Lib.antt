pub mod Meant
pub mod FlashParts
pub mod ProbeParts
pub mod MessageParts
pub mod MidiParts
pub mod LinkParts
pub mod NetParts
