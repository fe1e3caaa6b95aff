pub mod Votes
pub mod Calls
pub mod Events
pub mod Power
pub mod Rows
pub mod Turns
