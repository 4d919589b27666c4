pub mod Numbers
pub mod Lexing
pub mod Blanks
pub mod Places
pub mod Eights
pub mod Rows
