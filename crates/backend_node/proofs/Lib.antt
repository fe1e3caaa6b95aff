pub mod Values
pub mod Decided
pub mod FirstCopies
pub mod Turned
pub mod Offered
pub mod QuietRows
pub mod Moved
