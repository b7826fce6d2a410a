pub mod Arrivals
pub mod Cuts
mod Decimals
pub mod HexTexts
mod Lanes
pub mod Letters
pub mod Lines
mod Numerals
pub mod RowTexts
