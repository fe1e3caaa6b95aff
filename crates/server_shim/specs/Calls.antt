-- The copies of calls with the table of those that are ready.
use Rattle.std.specs.Prelude.{◌≡◌, ℕ, true, List, Option}
use Rattle.round_model.specs.Numbered.{rises}
use Rattle.round_model.specs.Shims.{ready_calls}

-- the copies are in order of their calls' numbers, and these are the calls whose copies agree, with their texts
pub record AreReady (u : ℕ) (copies : List (ℕ × List (Option (List ℕ)))) (ready : List (ℕ × List ℕ)) : Type 0 where
  pub sorted : rises 0 copies ≡ true
  pub picked : ready ≡ ready_calls u copies
