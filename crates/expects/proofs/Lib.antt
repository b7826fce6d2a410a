pub mod Proceeding
pub mod Closed
pub mod Comings
pub mod Selecting
pub mod Answering
pub mod Reporting
pub mod Telling
