pub mod Columns
pub mod Stores
pub mod Changes
