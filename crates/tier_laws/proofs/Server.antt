pub mod LookUps
pub mod LegalRounds
pub mod MirroredTables
pub mod GrowingHistory
pub mod ShownLists
