pub mod Lines
pub mod Data
pub mod Prompt
pub mod Pushing
pub mod Watching
pub mod Ready
pub mod Taking
