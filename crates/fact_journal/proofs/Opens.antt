-- What opening a journal of facts gives and refuses.
use Rattle.std.proofs.Common.{◌≡◌, inl, inr, ℕ, ◌+◌, List, [], ◌∷◌, Some, zero, suc, sym, ap, ◌∙◌, subst, arith}
use Rattle.std.specs.Prelude.{slice_get}
use Rattle.std.proofs.lemmas.Option.{same_Some}
use Rattle.aeg_base.specs.declared.names.Tier.{Tier}
use Rattle.aeg_disk.specs.Disk.{DiskState, Lawful}
use Rattle.node_journal.specs.Journal.{records, size_of, IsBadAt}
use Rattle.node_journal.specs.Append.{HasList}
use Rattle.log_values.specs.declared.fact.Fact.{Fact}
use Rattle.fact_journal.specs.Fitting.{Fit, EachFits, FactsFit}
use Rattle.fact_journal.specs.Standing.{texts, StandsFor}
use Rattle.fact_journal.specs.Calls.{IsRead, Opened, IsRefusedAt, ReadsOne}
use Rattle.fact_journal.proofs.Fits.{facts_fit}
use Rattle.fact_journal.proofs.Unique.{same_records, no_misfit, one_misfit}
use Rattle.fact_journal.proofs.Standing.{from_list}

pub read_fits : (tier : Tier) (bodies : List (List ℕ)) (facts : List Fact) → IsRead tier bodies facts → FactsFit tier 0 facts
read_fits tier bodies facts w = subst (FactsFit tier 0) (sym w.3) (facts_fit tier 0 w.0 w.2)

pub opened : (tier : Tier) (a b : DiskState) (bodies : List (List ℕ)) (facts : List Fact) (at : ℕ)
    → bodies ≡ records a.bytes → HasList (records a.bytes) b at → at + 1 ≡ size_of bodies → IsRead tier bodies facts
    → Opened tier a b facts at
opened tier a b bodies facts at e h long w =
    let is : records a.bytes ≡ texts w.0 = sym e ∙ w.1 in
    (w.0, is, w.2, w.3, from_list w.0 b at (subst (λ (l : List (List ℕ)). HasList l b at) is h) (long ∙ ap size_of w.1))

-- one of the lists
pub each_get : (tier : Tier) (lists : List (List (List Fact))) (k : ℕ) (rs : List (List Fact)) → EachFits tier lists → slice_get lists k ≡ Some rs → Fit tier rs
each_get tier [] k rs fit e = absurd cc
each_get tier (q ∷ lists) zero rs fit e = subst (Fit tier) (same_Some q rs e) fit.0
each_get tier (q ∷ lists) (suc k) rs fit e = each_get tier lists k rs fit.1 e

module _ (tier : Tier) (lists : List (List (List Fact))) (a : DiskState) (stands : StandsFor lists a) (each : EachFits tier lists) (lawful : Lawful a) where
  pub reads_one : (b : DiskState) (facts : List Fact) (at : ℕ) → Opened tier a b facts at → ReadsOne lists b facts at
  reads_one b facts at w =
      let o = stands.images a.bytes lawful.reads in
      let same : w.0 ≡ o.1 = same_records tier 0 0 w.0 o.1 w.2 (each_get tier lists o.0 o.1 each o.2) (sym w.1 ∙ o.3) in
      (o.0, w.0, o.2 ∙ ap (λ (rs : List (List Fact)). Some rs) (sym same), w.3, w.4)

  pub none_refused : (n : ℕ) → IsRefusedAt tier n a.bytes → ⊥
  none_refused n (inl bad) = stands.sound a.bytes lawful.reads n bad
  none_refused n (inr m) =
      let o = stands.images a.bytes lawful.reads in
      no_misfit tier 0 m.1.before o.1 m.1.body m.1.behind m.1.fit (each_get tier lists o.0 o.1 each o.2) (sym o.3 ∙ m.1.parts) m.1.misfit

-- what was opened was not to be refused
pub not_refused : (tier : Tier) (a b : DiskState) (facts : List Fact) (at : ℕ) → ((n : ℕ) → IsBadAt n a.bytes → ⊥)
    → Opened tier a b facts at → (n : ℕ) → IsRefusedAt tier n a.bytes → ⊥
not_refused tier a b facts at none w n (inl bad) = none n bad
not_refused tier a b facts at none w n (inr m) = no_misfit tier 0 m.1.before w.0 m.1.body m.1.behind m.1.fit w.2 (sym w.1 ∙ m.1.parts) m.1.misfit

-- what is refused is refused at one place
pub refused_once : (tier : Tier) (m n : ℕ) (bytes : List ℕ) → IsRefusedAt tier m bytes → IsRefusedAt tier n bytes → m ≡ n
refused_once tier m n bytes (inl a) (inl b) = sym a.place ∙ b.place
refused_once tier m n bytes (inl a) (inr b) = absurd (b.0 m a)
refused_once tier m n bytes (inr a) (inl b) = absurd (a.0 n b)
refused_once tier m n bytes (inr a) (inr b) =
    let same : a.1.before ≡ b.1.before = one_misfit tier 0 a.1.before b.1.before a.1.body b.1.body a.1.behind b.1.behind
    a.1.fit b.1.fit (sym a.1.parts ∙ b.1.parts) a.1.misfit b.1.misfit in
    omega (arith, a.1.place, b.1.place, ap (λ (rs : List (List Fact)). size_of (texts rs)) same)
