pub mod Resumes
pub mod Growing
pub mod Together
