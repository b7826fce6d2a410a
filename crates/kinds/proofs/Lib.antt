pub mod Behaves
pub mod Comes
pub mod Opened
pub mod Reaped
pub mod Readings
pub mod Left
pub mod Locals
pub mod PutAll
