pub mod Halts
pub mod Reels
