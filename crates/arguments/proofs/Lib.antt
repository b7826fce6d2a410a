mod Limits
pub mod Readings
