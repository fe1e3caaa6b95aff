-- Journals of records, and what one record more makes of them.
use Rattle.std.proofs.Common.{◌≡◌, ℕ, ◌+◌, ◌≤◌, Bool, true, false, cond, List, [], ◌∷◌, ◌++◌, refl, sym, ap, ◌∙◌, length, append-nil, arith}
use Rattle.std.proofs.lemmas.Bool.{ltb-false}
use Rattle.aeg_base.specs.declared.limits.TheConstants.{JOURNAL_BYTES}
use Rattle.aeg_base.specs.declared.names.Tier.{Tier}
use Rattle.fact_journal.proofs.Fits.{all_more, fit_recorded, open_after_then}
use Rattle.fact_journal.specs.Calls.{is_past, length_with}
use Rattle.fact_journal.specs.Fitting.{FactsFit, Fit, all_facts, open_after_all}
use Rattle.fact_journal.specs.Standing.{texts}
use Rattle.log_model.specs.Nodes.{or_written, recorded, writes}
use Rattle.log_values.specs.Records.{record_text}
use Rattle.log_values.specs.declared.fact.Fact.{Fact}
use Rattle.node_journal.specs.Journal.{size_of}
use Rattle.run_model.specs.World.{journal_length}
use Rattle.tier_nodes.specs.Standing.{journal_of}

journal-last : (bytes : List Fact → ℕ) (rs : List (List Fact)) (r : List Fact) → journal_length bytes (rs ++ r ∷ []) ≡ journal_length bytes rs + (5 + bytes r)
journal-last bytes [] r = refl
journal-last bytes (q ∷ rs) r = let h = journal-last bytes rs r in omega (arith, h)

pub journal_more : (rs : List (List Fact)) (r : List Fact) → journal_of (rs ++ r ∷ []) ≡ journal_of rs + (5 + length (record_text r))
journal_more rs r = journal-last (λ facts. length (record_text facts)) rs r

-- the journal once the facts are written
pub journal-with : (rs : List (List Fact)) (facts : List Fact) → journal_of (recorded rs facts) ≡ length_with (journal_of rs) facts
journal-with rs [] = refl
journal-with rs (f ∷ fs) = journal_more rs (f ∷ fs)

pub size_is : (rs : List (List Fact)) → size_of (texts rs) ≡ journal_of rs
size_is [] = refl
size_is (r ∷ rs) = let h = size_is rs in omega (arith, h)

short : (written : ℕ) (facts : List Fact) → is_past written facts ≡ false → written ≤ JOURNAL_BYTES → length_with written facts ≤ JOURNAL_BYTES
short written [] e l = l
short written (f ∷ fs) e l = ltb-false JOURNAL_BYTES (length_with written (f ∷ fs)) e

-- it stays within its limit with facts that don't pass it
pub more_within : (rs : List (List Fact)) (facts : List Fact) → journal_of rs ≤ JOURNAL_BYTES → is_past (journal_of rs) facts ≡ false
    → journal_of (recorded rs facts) ≤ JOURNAL_BYTES
more_within rs facts l e = let m = short (journal_of rs) facts e l in omega (arith, m, journal-with rs facts)

pub past_writes : (written : ℕ) (facts : List Fact) → is_past written facts ≡ true → writes facts ≡ true
past_writes written [] e = absurd (cc)
past_writes written (f ∷ fs) e = refl

pub written_all : (rs : List (List Fact)) (facts : List Fact) → writes facts ≡ true → recorded rs facts ≡ rs ++ facts ∷ []
written_all rs [] e = absurd (cc)
written_all rs (f ∷ fs) e = refl

pub or_is : (rs : List (List Fact)) (facts : List Fact) → writes facts ≡ true → or_written rs facts ≡ recorded rs facts ∷ []
or_is rs [] e = absurd (cc)
or_is rs (f ∷ fs) e = refl

facts_with : (rs : List (List Fact)) (facts : List Fact) → all_facts (recorded rs facts) ≡ all_facts rs ++ facts
facts_with rs [] = sym (append-nil (all_facts rs))
facts_with rs (f ∷ fs) = all_more rs (f ∷ fs)

-- where the log is open then
pub open_with : (rs : List (List Fact)) (facts : List Fact) → open_after_all 0 (all_facts (recorded rs facts))
    ≡ open_after_all (open_after_all 0 (all_facts rs)) facts
open_with rs facts = ap (open_after_all 0) (facts_with rs facts) ∙ open_after_then 0 (all_facts rs) facts

-- a cut keeps the record or not
pub cut_within : (rs : List (List Fact)) (facts : List Fact) (kept : Bool) → journal_of rs ≤ JOURNAL_BYTES → is_past (journal_of rs) facts ≡ false
    → journal_of (cond kept (recorded rs facts) rs) ≤ JOURNAL_BYTES
cut_within rs facts true l e = more_within rs facts l e
cut_within rs facts false l e = l

pub cut_fits : (t : Tier) (rs : List (List Fact)) (facts : List Fact) (kept : Bool) → Fit t rs → FactsFit t (open_after_all 0 (all_facts rs)) facts
    → Fit t (cond kept (recorded rs facts) rs)
cut_fits t rs facts true k h = fit_recorded t rs facts k h
cut_fits t rs facts false k h = k
