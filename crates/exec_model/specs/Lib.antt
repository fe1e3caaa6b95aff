pub mod Serial
pub mod Machine
pub mod Groups
pub mod Jobs
pub mod Spell
pub mod Outcomes
