pub mod Taking
pub mod Together
