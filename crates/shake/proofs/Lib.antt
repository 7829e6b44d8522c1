pub mod BlockBytes
pub mod Absorbing
pub mod Squeezing
pub mod Pieces
mod Saved
pub mod Facts
pub mod Rounds
pub mod FourLanes
pub mod Planes
pub mod SideBySide
