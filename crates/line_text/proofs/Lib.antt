mod Hexadecimal
mod Decimals
pub mod Widths
mod TwoDigits
