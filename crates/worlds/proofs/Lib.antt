mod Consumed
mod Lent
mod Lives
mod Plays
mod ReadChains
pub mod RecordFiles
mod Replayed
mod Scripts
pub mod Seen
mod WordChains
