pub mod Drawn
pub mod Placing
pub mod Gathering
pub mod InRows
pub mod Fetching
pub mod Binned
