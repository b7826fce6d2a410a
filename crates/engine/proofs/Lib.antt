pub mod Sessions
pub mod Worlds
pub mod Laws
