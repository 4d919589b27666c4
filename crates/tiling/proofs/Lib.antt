pub mod Tiles
pub mod Columns
pub mod Intervals
pub mod JoinedRows
pub mod Tiled
