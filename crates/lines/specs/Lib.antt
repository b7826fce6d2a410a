pub mod Cut
pub mod Digits
pub mod Line
pub mod Numerals
pub mod Rows
