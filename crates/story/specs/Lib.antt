pub mod Line
pub mod Spelling
