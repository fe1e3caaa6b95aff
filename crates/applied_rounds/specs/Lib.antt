pub mod States
pub mod ClientsAfter
pub mod Told
