pub mod Named
pub mod Listed
