pub mod Ended
pub mod OfTiles
