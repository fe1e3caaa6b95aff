pub mod Fits
pub mod Unique
pub mod Restoring
pub mod Lengths
pub mod Standing
pub mod BodiesRead
pub mod Appends
pub mod Opens
