-- Facts that fit, one list behind another.
use Rattle.std.proofs.Common.{◌≡◌, ℕ, ◌<◌, List, [], ◌∷◌, ◌++◌, length, refl, sym, ap, ◌∙◌, subst, append_assoc, arith}
use Rattle.std.specs.List.{AllByRecursion}
use Rattle.std.proofs.lemmas.List.{append-nil}
use Rattle.aeg_base.specs.declared.names.Tier.{Tier}
use Rattle.log_values.specs.declared.fact.Fact.{Fact}
use Rattle.log_values.specs.Records.{FitsFact}
use Rattle.log_model.specs.Nodes.{recorded}
use Rattle.fact_journal.specs.Fitting.{open_after, open_after_all, FactsFit, RecordsFit, Fit, all_facts}

pub open_after_then : (first : ℕ) (xs ys : List Fact) → open_after_all first (xs ++ ys) ≡ open_after_all (open_after_all first xs) ys
open_after_then first [] ys = refl
open_after_then first (x ∷ xs) ys = open_after_then (open_after first x) xs ys

pub facts_then : (tier : Tier) (first : ℕ) (xs ys : List Fact) → FactsFit tier first xs
    → FactsFit tier (open_after_all first xs) ys → FactsFit tier first (xs ++ ys)
facts_then tier first [] ys p q = q
facts_then tier first (x ∷ xs) ys p q = (p.0, facts_then tier (open_after first x) xs ys p.1 q)

-- facts that fit can be written
pub written : (tier : Tier) (first : ℕ) (facts : List Fact) → FactsFit tier first facts → AllByRecursion FitsFact facts
written tier first [] p = tt
written tier first (f ∷ fs) p = (p.0.0, written tier (open_after first f) fs p.1)

-- the facts of records that fit
pub facts_fit : (tier : Tier) (first : ℕ) (rs : List (List Fact)) → RecordsFit tier first rs → FactsFit tier first (all_facts rs)
facts_fit tier first [] p = tt
facts_fit tier first (r ∷ rs) p = facts_then tier first r (all_facts rs) p.1.0 (facts_fit tier (open_after_all first r) rs p.1.1)

pub all_more : (rs : List (List Fact)) (r : List Fact) → all_facts (rs ++ r ∷ []) ≡ all_facts rs ++ r
all_more [] r = append-nil r
all_more (q ∷ rs) r = ap (λ (fs : List Fact). q ++ fs) (all_more rs r) ∙ sym (append_assoc q (all_facts rs) r)

-- one record more
pub fit_more : (tier : Tier) (first : ℕ) (rs : List (List Fact)) (r : List Fact) → RecordsFit tier first rs
    → 0 < length r → FactsFit tier (open_after_all first (all_facts rs)) r → RecordsFit tier first (rs ++ r ∷ [])
fit_more tier first [] r p some q = (some, (q, tt))
fit_more tier first (x ∷ rs) r p some q = (
  p.0,
  (
    p.1.0,
    fit_more tier (open_after_all first x) rs r p.1.1 some
        (subst (λ (n : ℕ). FactsFit tier n r) (open_after_then first x (all_facts rs)) q),
  ),
)

-- and the last one
pub fit_last : (tier : Tier) (first : ℕ) (rs : List (List Fact)) (r : List Fact) → RecordsFit tier first (rs ++ r ∷ [])
    → (0 < length r) × FactsFit tier (open_after_all first (all_facts rs)) r
fit_last tier first [] r p = (p.0, p.1.0)
fit_last tier first (x ∷ rs) r p =
    let q = fit_last tier (open_after_all first x) rs r p.1.1 in
    (q.0, subst (λ (n : ℕ). FactsFit tier n r) (sym (open_after_then first x (all_facts rs))) q.1)

-- what an event writes, behind what was written
pub fit_recorded : (tier : Tier) (rs : List (List Fact)) (facts : List Fact) → Fit tier rs
    → FactsFit tier (open_after_all 0 (all_facts rs)) facts → Fit tier (recorded rs facts)
fit_recorded tier rs [] p q = p
fit_recorded tier rs (f ∷ fs) p q = fit_more tier 0 rs (f ∷ fs) p (omega arith) q
