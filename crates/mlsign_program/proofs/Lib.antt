pub mod Checking
pub mod Lines
pub mod Names
pub mod Reading
