pub mod Services
pub mod Votes
pub mod NextRounds
pub mod DecidedMoves
pub mod RunMoves
pub mod WorkMoves
pub mod ToldAgain
pub mod CaughtUp
