pub mod View
pub mod Frames
pub mod Waiting
pub mod Phases
pub mod Began
pub mod Inner
pub mod Below
