pub mod LeftOut
pub mod Locals
pub mod Settings
pub mod Acting
pub mod Began
pub mod Commands
pub mod View
