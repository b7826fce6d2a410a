pub mod Ending
pub mod Commands
pub mod Scripts
pub mod Closing
pub mod Closed
pub mod Run
pub mod Bounds
pub mod Laws
