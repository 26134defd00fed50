pub mod Naming
mod Answering
pub mod Telling
pub mod CaptureLaws
pub mod ListingLemmas
pub mod Taking
