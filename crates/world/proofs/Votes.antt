pub mod PassedTests
pub mod DistinctSenders
pub mod Tallies
pub mod TalliesAreEnough
pub mod OtherFrames
pub mod GrowingLogs
pub mod HeardPackets
pub mod GrownLogs
