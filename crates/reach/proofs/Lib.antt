pub mod Bits
pub mod Sixteen
pub mod TileColumns
