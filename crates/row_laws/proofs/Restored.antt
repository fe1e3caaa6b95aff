-- What a restart restores of a node's log.
use Rattle.std.proofs.Common.{◌≡◌, ℕ, List, [], ◌∷◌, length, sym, ap, ◌∙◌, subst, refl, Some, suc}
use Rattle.std.specs.Prelude.{slice_get}
use Rattle.aeg_base.specs.declared.names.Tier.{Tier}
use Rattle.log_model.specs.Log.{open_at}
use Rattle.log_model.specs.Ranges.{IsLogIn}
use Rattle.log_model.specs.Recover.{newest, recover, learned_in}
use Rattle.log_model.proofs.Basics.{Every}
use Rattle.log_values.specs.declared.any_value.AnyValue.{AnyValue}
use Rattle.log_values.specs.declared.fact.Fact.{Fact}
use Rattle.log_values.specs.Fields.{FitsBallot}
use Rattle.log_values.specs.Values.{FitsAny}
use Rattle.frames.specs.LogMessages.{IsCarried}
use Rattle.tier_model.specs.Moves.{log_facts}
use Rattle.fact_journal.specs.Fitting.{Fit, all_facts, open_after_all}
use Rattle.fact_journal.proofs.Fits.{facts_fit}
use Rattle.fact_journal.proofs.Restoring.{newest_log, open_is, in_order, in_range, restored_in}

pub log_restored : (u : ℕ) (t : Tier) (rs : List (List Fact)) → Fit t rs → IsLogIn (IsCarried t) FitsBallot (recover u (log_facts (newest rs)))
log_restored u t rs fit =
    let facts = facts_fit t 0 rs fit in
    subst (λ z. IsLogIn (IsCarried t) FitsBallot (recover u z)) (sym (newest_log rs))
    (restored_in (IsCarried t) FitsBallot u (log_facts (all_facts rs)) (in_range t 0 (all_facts rs) facts) (in_order t 0 (all_facts rs) facts))

pub log_opens : (u : ℕ) (rs : List (List Fact)) → open_at (recover u (log_facts (newest rs))) ≡ open_after_all 0 (all_facts rs)
log_opens u rs = ap (λ z. length (learned_in z)) (newest_log rs) ∙ sym (open_is (all_facts rs))

pub all_carried : (t : Tier) (first : ℕ) (vs : List AnyValue) → ((p : ℕ) (v : AnyValue) → slice_get vs p ≡ Some v → (q : ℕ) × IsCarried t q v)
    → Every FitsAny vs
all_carried t first [] f = tt
all_carried t first (v ∷ vs) f = ((f 0 v refl).1.0, all_carried t first vs (λ p w e. f (suc p) w e))
