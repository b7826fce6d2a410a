pub mod Kept
pub mod Argument
