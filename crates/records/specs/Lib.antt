pub mod Entry
pub mod Fault
pub mod Reading
pub mod Record
pub mod Sink
pub mod Tries
