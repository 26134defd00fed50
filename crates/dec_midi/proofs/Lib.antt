pub mod Widths
pub mod RealTimeLaws
