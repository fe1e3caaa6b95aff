pub mod Log
pub mod Rows
pub mod Recover
pub mod Nodes
pub mod World
pub mod Chosen
pub mod Ranges
