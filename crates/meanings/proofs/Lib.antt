pub mod Splits
pub mod Once
