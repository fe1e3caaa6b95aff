pub mod GrowingLogs
pub mod RightMoves
pub mod LearnedValues
pub mod LogTurns
pub mod RightSteps
