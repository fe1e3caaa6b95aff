pub mod Clients
pub mod Places
pub mod Steps
pub mod Writes
