pub mod Lists
pub mod Taking
pub mod Elements
pub mod Taken
pub mod Indexed
mod Sums
