pub mod Finish
pub mod ArrayElements
pub mod Draws
pub mod KnownKeys
pub mod Memory
pub mod Reached
pub mod Headed
pub mod Parts
