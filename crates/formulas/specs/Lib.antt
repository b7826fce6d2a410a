pub mod Error
pub mod View
pub mod Seen
pub mod Group
pub mod Reads
pub mod Spellable
