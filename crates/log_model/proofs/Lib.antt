pub mod Basics
pub mod Ballots
pub mod History
pub mod Soup
pub mod Invariant
pub mod Agree
pub mod Step
pub mod Rows
pub mod Votes
pub mod Events
pub mod Chosen
pub mod Origin
mod Example
pub mod Said
pub mod Ranged
