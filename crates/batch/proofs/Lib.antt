pub mod Chunks
pub mod Corners
pub mod Ranges
pub mod Numbered
pub mod Elements
pub mod Draws
pub mod Faults
