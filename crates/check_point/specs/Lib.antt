pub mod Checks
pub mod Loading
pub mod CheckLaws
pub mod laws
