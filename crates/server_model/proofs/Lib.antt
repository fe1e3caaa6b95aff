mod Examples
pub mod LineLaws
pub mod WordLaws
pub mod TextLengths
pub mod Tiers
