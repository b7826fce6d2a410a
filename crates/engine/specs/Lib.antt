pub mod Session
pub mod Step
pub mod Lending
pub mod Watching
pub mod Ends
pub mod Prelude
