pub mod Waiting
pub mod Begun
pub mod Fresh
pub mod Runs
pub mod Ended
pub mod MovedOn
pub mod Settles
pub mod Found
