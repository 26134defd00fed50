mod Loads
mod Pushes
