pub mod Walks
pub mod Events
pub mod Outputs
pub mod Promises
pub mod Edges
pub mod laws
