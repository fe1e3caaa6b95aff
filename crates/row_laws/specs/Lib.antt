pub mod Services
pub mod Backs
pub mod Mids
pub mod Moves
pub mod States
