pub mod Planes
pub mod Numbered
pub mod Blocks
pub mod Rows
