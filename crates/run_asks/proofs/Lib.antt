pub mod Forms
pub mod Opening
mod OneAsked
mod OneBeginning
pub mod Exact
