mod Rows
mod Lists
pub mod Telling
mod Coming
mod Serving
mod Counts
mod Behind
mod Stepping
mod Making
mod Moving
mod Turning
mod Ending
mod Lessening
mod Lying
