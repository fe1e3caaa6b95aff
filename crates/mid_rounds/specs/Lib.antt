pub mod Mids
pub mod Deciding
pub mod Settlings
pub mod Telling
pub mod Running
