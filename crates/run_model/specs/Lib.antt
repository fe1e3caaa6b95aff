pub mod Script
pub mod World
pub mod Histories
pub mod Runs
pub mod Text
pub mod Resolving
pub mod BookingRuns
pub mod Standings
