mod Choosing
mod Asked
mod Searching
