-- The invariant: statements alone, a file for each part.
pub mod LogsAreChosen
pub mod HistoryFollowsLogs
pub mod Past
pub mod FloorsAreHeld
pub mod VerdictsHaveCauses
pub mod ValuesAreGood
pub mod PacketsAreTrue
pub mod MiddleNodes
pub mod BackendNodes
pub mod NodesAreRight
pub mod Whole
