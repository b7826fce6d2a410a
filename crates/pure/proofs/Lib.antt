pub mod Whole
pub mod Cuts
pub mod Kept
pub mod Stands
pub mod Places
pub mod KeptLists
pub mod Fixed
