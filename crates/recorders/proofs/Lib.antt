pub mod Closed
pub mod Counts
pub mod Filed
pub mod Recorded
pub mod Replayed
pub mod Told
