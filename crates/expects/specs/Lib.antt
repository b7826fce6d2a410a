pub mod Report
pub mod Told
pub mod Clock
pub mod Turn
pub mod Words
pub mod Expect
pub mod View
pub mod Parts
