pub mod Ends
pub mod Fields
pub mod Laws
pub mod Outcomes
pub mod Reading
pub mod Records
pub mod Values
