pub mod Pairs
pub mod Place
pub mod Flat
pub mod Sizes
pub mod Writes
pub mod Unwinding
pub mod Differences
