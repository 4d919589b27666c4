pub mod Sides
pub mod Reported
pub mod Complete
pub mod Chained
pub mod Exact
pub mod Following
pub mod Counted
