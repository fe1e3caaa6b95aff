pub mod Writes
pub mod Commits
pub mod Bounded
pub mod Fits
