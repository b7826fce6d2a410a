pub mod Due
pub mod Laws
pub mod Left
pub mod Recording
pub mod Reel
pub mod Replay
