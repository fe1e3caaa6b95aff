pub mod Orders
pub mod Plan
pub mod Requests
pub mod Segment
