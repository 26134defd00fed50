-- The machine's view, and lemmas that laws of the machine cite.
pub mod Machine
pub mod Crc
pub mod RowCuts
pub mod Pushed
pub mod Sound
pub mod ModbusLaws
