pub mod Lead
pub mod Runs
pub mod Vain
