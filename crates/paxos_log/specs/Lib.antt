pub mod TierLog
pub mod Parts
