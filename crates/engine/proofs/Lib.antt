pub mod Ended
pub mod Writing
pub mod Written
