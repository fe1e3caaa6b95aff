pub mod Backends
pub mod Deciding
