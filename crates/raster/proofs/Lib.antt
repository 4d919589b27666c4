pub mod Places
pub mod Cut
pub mod Parts
pub mod Bits
pub mod BlockDrawn
pub mod Rows
pub mod PixelRow
pub mod Patch
