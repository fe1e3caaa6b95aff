pub mod Moves
pub mod Mid
pub mod MidRows
pub mod Back
pub mod BackRows
pub mod Kinds
