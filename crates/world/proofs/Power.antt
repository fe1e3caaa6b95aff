pub mod PutInPlace
pub mod Crashes
pub mod Wipes
pub mod RestartEvents
pub mod CountsOfFaults
pub mod Restarts
pub mod BlankDisks
