pub mod Held
pub mod Journal
pub mod Laws
pub mod Rows
pub mod Size
pub mod Unchanged
