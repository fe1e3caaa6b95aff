pub mod CodesOfFacts
pub mod HeldAnswers
pub mod RightMoves
pub mod RowsBesideLog
pub mod Offers
pub mod RightSteps
