pub mod Opened
pub mod Spare
pub mod Changed
