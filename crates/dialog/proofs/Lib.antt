pub mod Elsewhere
pub mod Mentions
pub mod Others
