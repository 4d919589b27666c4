pub mod ByAlpha
pub mod RowMasks
pub mod TileRows
pub mod Batches
pub mod Once
mod Groups
pub mod Zeros
