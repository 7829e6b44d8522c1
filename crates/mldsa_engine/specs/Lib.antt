pub mod Calls
pub mod ProgramText
pub mod InnerSteps
pub mod Devices
pub mod Lines
pub mod LineSteps
