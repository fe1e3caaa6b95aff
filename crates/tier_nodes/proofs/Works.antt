-- Work writes nothing down.
use Rattle.std.proofs.Common.{◌≡◌, ℕ, Bool, true, false, cond, List, [], refl, Option, Some, None}
use Rattle.std.specs.Prelude.{is_some}
use Rattle.round_model.specs.After.{verdict_at}
use Rattle.round_model.specs.Service.{Programs}
use Rattle.tier_model.specs.Mid.{Mid, Ready, applies, ready}
use Rattle.tier_model.specs.MidRows.{Running, runs_or_not, to_run, work}
use Rattle.tier_model.specs.Moves.{Move}

module _ (u : ℕ) (p : Programs) (x : ℕ) (σ : Mid) where
  either : (c : Bool) (a b : Move Mid) → a.facts ≡ [] → b.facts ≡ [] → (cond c a b).facts ≡ []
  either true a b e f = e
  either false a b e f = f

  applying : (o : Option Ready) → (applies u p x σ o).facts ≡ []
  applying None = refl
  applying (Some round) = refl

  running : (o : Option Running) → (runs_or_not u p x σ o).facts ≡ []
  running None = refl
  running (Some r) = refl

  pub work_silent : (schedule : List ℕ) → (work u p x σ schedule).facts ≡ []
  work_silent schedule = either _ _ _ (applying (ready p σ)) (running (to_run u p x σ schedule))
