pub mod States
pub mod Kept
pub mod Jobs
pub mod Answers
