-- A run is by a node of the tier and came to its job's outcome in its order, and a verdict has the runs that it stands on.
use Rattle.std.proofs.Common.{◌≡◌, ℕ, ◌+◌, ◌*◌, ◌<◌, Bool, true, false, List, [], ◌∷◌, length, Some}
use Rattle.std.specs.Prelude.{slice_get, ◌==◌, ◌&&◌, ◌||◌}
use Rattle.log_model.specs.Log.{count_below}
use Rattle.log_values.specs.declared.mid_value.Verdict.{Verdict}
use Rattle.log_values.specs.declared.mid_value.Verdict.TheVariants.{Commit, Serial}
use Rattle.round_model.specs.After.{Round, round}
use Rattle.round_model.specs.Service.{finish, is_order, token_of}
use Rattle.round_model.specs.Verdicts.{Vote, same_token}
use Rattle.run_model.specs.World.{Config}
use Rattle.tier_laws.proofs.Invariant.Past.{Past}
use Rattle.tier_laws.proofs.Invariant.FloorsAreHeld.{JobHeld}

abbrev pub DidRun : {B : Type 0} → Past B → Vote → Type 0
DidRun P v = (i : ℕ) × (slice_get P.runs i ≡ Some v)

pub record RunOk {B : Type 0} (c : Config B) (P : Past B) (v : Vote) : Type 0 where
  pub inside : v.from < 2 * c.u + 1
  pub made : Round
  pub is_round : round c.service.programs c.depth P.log P.server.served v.round ≡ Some made
  pub held : JobHeld c P made.wants
  pub is_ordered : is_order (length made.job) v.order ≡ true
  pub is_token : v.token ≡ token_of c.service.programs made.tables.store (finish c.service.programs made.job v.order made.tables.store)

-- y ran round r to this token
abbrev pub has_run : List Vote → ℕ → List ℕ → ℕ → Bool
has_run [] r o y = false
has_run (v ∷ vs) r o y = ((v.round == r) && ((v.from == y) && same_token v.token o)) || has_run vs r o y

abbrev pub VerdictBy : {B : Type 0} → Config B → Past B → ℕ → Round → Verdict → Type 0
VerdictBy c P r R (Commit o order) = (is_order (length R.job) order ≡ true)
    × (o ≡ token_of c.service.programs R.tables.store (finish c.service.programs R.job order R.tables.store))
    × ((n : ℕ) × (c.u < n)
    × ((ys : ℕ → Bool) × (count_below (2 * c.u + 1) ys ≡ n)
    × ((y : ℕ) → ys y ≡ true → (w : Vote) × DidRun P w × (w.round ≡ r) × (w.from ≡ y) × (same_token w.token o ≡ true))))
    × ((w : Vote) × DidRun P w × (w.round ≡ r) × (w.token ≡ o) × (w.order ≡ order))
VerdictBy c P r R Serial = (v : Vote) × (w : Vote) × DidRun P v × DidRun P w × (v.round ≡ r) × (w.round ≡ r)
    × (same_token v.token w.token ≡ false) × (same_token w.token w.token ≡ true → v.from ≡ w.from → ⊥)

pub record VerdictOk {B : Type 0} (c : Config B) (P : Past B) (r : ℕ) (v : Verdict) : Type 0 where
  pub made : Round
  pub is_round : round c.service.programs c.depth P.log P.server.served r ≡ Some made
  pub held : JobHeld c P made.wants
  pub by : VerdictBy c P r made v
