pub mod Units
pub mod Written
pub mod PixelRows
pub mod Arranged
pub mod PixelColours
pub mod Changes
pub mod TileEntries
