pub mod Walks
pub mod Outputs
pub mod Promises
pub mod Transactions
pub mod laws
