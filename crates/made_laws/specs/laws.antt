-- Lemmas that the laws cite: of the bus, and of the line.
pub mod BusLevels
pub mod BusValues
pub mod BusBytes
pub mod BusBlocks
pub mod LineLevelLaws
pub mod BitCells
pub mod LineBytes
pub mod MadeLevels
pub mod MadeLines
