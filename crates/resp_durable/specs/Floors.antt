-- The answers of one tier with the floor that is carried along.
use Rattle.std.specs.Prelude.{◌≡◌, ℕ, true, List}
use Rattle.round_model.specs.declared.answer.Answer.{Answer}
use Rattle.round_model.specs.Numbered.{rises}
use Rattle.round_model.specs.Held.{floor_of}

-- the answers are in order, and the floor is theirs
pub record HasFloor (u me : ℕ) (answers : List (ℕ × Answer)) (floor : ℕ) : Type 0 where
  pub sorted : rises 0 answers ≡ true
  pub least : floor ≡ floor_of u me answers
