pub mod Happenings
pub mod I2cHappenings
pub mod Looking
