pub mod SentAndWritten
pub mod JournalsGrow
pub mod RestoredLogs
pub mod RepeatedFrames
pub mod FewMessages
pub mod PacketsHaveRoom
pub mod TurnsOfNodes
