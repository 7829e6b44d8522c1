pub mod LineCounts
pub mod Entries
pub mod Verdicts
mod Worked
mod Buffered
mod Endings
mod Judging
pub mod LinesInSequence
