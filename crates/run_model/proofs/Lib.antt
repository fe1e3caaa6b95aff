pub mod Appending
pub mod Beginning
pub mod Driving
pub mod Examples
pub mod FaultExamples
pub mod OrderExamples
pub mod QuorumExamples
pub mod Resolved
mod ScriptExamples
pub mod Sole
pub mod Standing
mod TextExamples
pub mod Soups
