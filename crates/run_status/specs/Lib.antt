pub mod Notices
pub mod Causes
