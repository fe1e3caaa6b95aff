pub mod Bytes
pub mod Causes
