pub mod Depths
pub mod Slopes
pub mod Planes
pub mod Heights
pub mod CandidateLanes
pub mod Groups
