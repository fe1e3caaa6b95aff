pub mod Ballots
pub mod Codes
pub mod Locks
pub mod Numbers
pub mod Store
pub mod Changes
pub mod Faults
