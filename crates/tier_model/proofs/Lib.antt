pub mod Examples
pub mod BackExamples
pub mod Facts
pub mod Carried
