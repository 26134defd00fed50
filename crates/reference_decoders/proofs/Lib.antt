pub mod I2cMaps
pub mod LevelLaws
pub mod ListMaps
pub mod SpiMaps
pub mod UartLists
