pub mod Places
mod Going
mod Feeding
mod Trees
mod Handing
