pub mod Reading
pub mod Playing
pub mod Dues
pub mod Told
mod Refusals
mod Commands
mod Nodes
mod Cuts
mod Faults
mod Copies
mod Bookings
mod Pipelines
mod Orders
