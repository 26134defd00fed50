pub mod AlongLaws
pub mod BetweenLaws
pub mod BitLaws
pub mod GroupLaws
pub mod LastLaws
mod Loops
pub mod NeighbourLaws
pub mod PartLaws
pub mod PlaceLaws
pub mod TestLaws
