pub mod Link
pub mod Singles
