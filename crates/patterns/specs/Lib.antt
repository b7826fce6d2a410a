pub mod Item
pub mod Glob
pub mod Match
pub mod Passed
pub mod Runs
pub mod Sign
