pub mod Batched
pub mod Pictures
pub mod Depths
pub mod Parts
pub mod PartChanges
