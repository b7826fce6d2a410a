mod Blocks
mod Faults
pub mod Notes
pub mod Readings
pub mod Records
pub mod Sinks
mod Spelled
mod Told
mod Tries
