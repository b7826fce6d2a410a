pub mod Drafts
pub mod Misreads
pub mod Parts
pub mod Reads
pub mod Signs
