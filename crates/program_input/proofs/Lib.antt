pub mod Lines
pub mod Matches
