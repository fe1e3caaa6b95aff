-- What the nodes of a tier claimed in a round.
use Rattle.std.specs.Prelude.{ℕ}
use Rattle.round_model.specs.Verdicts.{Claims}

-- the number u of a tier of 2u+1 nodes, and what each of them claims
pub record TallyState : Type 0 where
  pub faults : ℕ
  pub claims : Claims
