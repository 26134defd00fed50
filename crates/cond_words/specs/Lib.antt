pub mod Words
pub mod Grammar
pub mod Binding
pub mod Steps
pub mod Holding
