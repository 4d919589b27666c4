pub mod SameRuns
pub mod Ends
pub mod Shown
pub mod PixelRuns
