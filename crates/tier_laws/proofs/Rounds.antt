pub mod StableRounds
pub mod ActsByIndex
pub mod AnyOrder
pub mod WantsDiffer
pub mod RoundsInRange
pub mod DecidedRounds
pub mod BackedVerdicts
pub mod CausesBefore
