pub mod KeptBranches
pub mod Standing
