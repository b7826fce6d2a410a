pub mod ExpContinue
pub mod Exits
