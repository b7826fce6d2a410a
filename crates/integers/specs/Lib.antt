pub mod Division
pub mod Bits
