pub mod Fronts
pub mod Going
mod Walking
pub mod Searching
pub mod Handing
mod Rooms
