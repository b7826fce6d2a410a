pub mod Formals
pub mod Proc
