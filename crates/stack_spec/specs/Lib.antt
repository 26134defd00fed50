pub mod Binding
pub mod BindSteps
