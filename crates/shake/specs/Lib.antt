pub mod Keccak
pub mod Shake
pub mod State
pub mod Lengths
pub mod Pieces
pub mod Four
