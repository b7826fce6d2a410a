mod Entries
mod Frames
pub mod InTurn
mod Innermost
mod Keys
mod Reach
mod Reading
pub mod Rewritten
mod Slots
mod Sums
