pub mod Rows
pub mod Passed
pub mod Sums
pub mod RowAfter
pub mod Numbers
