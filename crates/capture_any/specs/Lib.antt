pub mod Captures
pub mod Listings
pub mod Reading
pub mod Taking
pub mod Answers
pub mod Laws
