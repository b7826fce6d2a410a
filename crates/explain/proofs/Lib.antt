pub mod Fronts
pub mod Stories
