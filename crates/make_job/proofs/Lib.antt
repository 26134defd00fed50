mod MadeLaws
mod MadeTree
mod MadeGiving
mod Counting
mod Tallying
