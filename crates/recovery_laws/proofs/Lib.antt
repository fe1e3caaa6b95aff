pub mod Ballots
pub mod Logs
pub mod Tables
pub mod Codes
pub mod Alike
pub mod Examples
