pub mod Counts
pub mod DeskGathering
pub mod DeskSteps
pub mod Gathering
pub mod Placing
pub mod Rowed
pub mod Turns
