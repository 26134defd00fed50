pub mod Meanings
pub mod Decoders
pub mod Help
