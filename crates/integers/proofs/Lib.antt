mod Quotients
pub mod Bits
mod Fits
