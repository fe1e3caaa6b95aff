pub mod Settled
pub mod Runs
pub mod Specs
pub mod Views
