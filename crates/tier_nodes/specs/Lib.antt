pub mod Moving
pub mod Standing
pub mod Arming
pub mod Calling
pub mod Powering
pub mod Seats
pub mod BackRows
pub mod MidRows
