pub mod Meaning
pub mod View
