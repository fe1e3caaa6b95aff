pub mod Headers
pub mod Messages
pub mod LogMessages
pub mod Lengths
pub mod Votes
pub mod Frames
