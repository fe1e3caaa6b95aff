pub mod Clients
pub mod Events
pub mod Reading
pub mod Soups
