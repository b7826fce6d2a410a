pub mod Compared
pub mod Lookups
