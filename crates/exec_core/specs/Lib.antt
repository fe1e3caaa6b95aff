pub mod States
pub mod Jobs
pub mod Batches
pub mod Counts
pub mod Given
pub mod Rounds
pub mod Underway
pub mod Gates
