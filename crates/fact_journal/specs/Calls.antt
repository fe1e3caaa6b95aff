-- What appending a record of facts and opening a journal of facts do.
use Rattle.std.specs.Prelude.{◌≡◌, ◌⊎◌, ℕ, ◌+◌, ◌<◌, ◌≤◌, List, [], ◌∷◌, ◌++◌, length, Bool, false, cond, nat_lt, Some, Result, Ok, Err, slice_get}
use Rattle.aeg_base.specs.declared.limits.TheConstants.{JOURNAL_BYTES}
use Rattle.aeg_base.specs.declared.names.Tier.{Tier}
use Rattle.aeg_disk.specs.Disk.{DiskState}
use Rattle.node_journal.specs.declared.journal.AppendErr.{AppendErr}
use Rattle.node_journal.specs.declared.journal.AppendErr.TheVariants.{Disk, Full, Memory}
use Rattle.node_journal.specs.Journal.{records, size_of, IsBadAt}
use Rattle.node_journal.specs.Append.{is_kept}
use Rattle.log_model.specs.Nodes.{recorded}
use Rattle.log_values.specs.declared.fact.Fact.{Fact}
use Rattle.log_values.specs.Records.{record_text}
use Rattle.fact_journal.specs.Fitting.{FactsFit, open_after_all, Fit, all_facts}
use Rattle.fact_journal.specs.Standing.{texts, HasFacts, IsSound, StandsFor}

-- APPENDING

-- how long a journal is once these facts are written to it
abbrev pub length_with : ℕ → List Fact → ℕ
length_with written [] = written
length_with written (f ∷ fs) = written + (5 + length (record_text (f ∷ fs)))

-- they are written and pass the journal's limit
abbrev pub is_past : ℕ → List Fact → Bool
is_past written [] = false
is_past written (f ∷ fs) = nat_lt JOURNAL_BYTES (length_with written (f ∷ fs))

-- the records as they were, or with the new one
abbrev pub old_or_new : List (List Fact) → List Fact → List (List (List Fact))
old_or_new rs facts = rs ∷ recorded rs facts ∷ []

-- At Ok the disk has the new record, and where the journal is full the old ones. After another error it stands for the
-- old records, or for these and the new one.
abbrev pub Appended : List (List Fact) → List Fact → DiskState → ℕ → Result (Unit {0}) AppendErr → Type 0
Appended rs facts s at (Ok _) = HasFacts (recorded rs facts) s at
Appended rs facts s at (Err (Full size)) = HasFacts rs s at
Appended rs facts s at (Err Disk) = StandsFor (old_or_new rs facts) s
Appended rs facts s at (Err Memory) = StandsFor (old_or_new rs facts) s

-- the armed stop was met, by one of the four device calls, with no fault before
pub record IsCut (rs : List (List Fact)) (facts : List Fact) (a b : DiskState) : Type 0 where
  pub first : 1 ≤ a.armed
  pub last : a.armed ≤ 4
  pub faults : b.faults ≡ a.faults
  -- at the third or fourth, with `keep`, the new record is there
  pub stands : StandsFor (cond (is_kept a.armed a.keep) (recorded rs facts) rs ∷ []) b

-- OPENING

-- the bodies are those of records that fit, and these are their facts
abbrev pub IsRead : Tier → List (List ℕ) → List Fact → Type 0
IsRead tier bodies facts = (rs : List (List Fact)) × (bodies ≡ texts rs) × Fit tier rs × (facts ≡ all_facts rs)

-- the body is that of a record that fits where so many positions were learned before, and its facts were added
pub record TakesRecord (tier : Tier) (first : ℕ) (body : List ℕ) (before after : List Fact) (next : ℕ) : Type 0 where
  pub taken : List Fact
  pub spelled : body ≡ record_text taken
  pub some : 0 < length taken
  pub fit : FactsFit tier first taken
  pub added : after ≡ before ++ taken
  pub place : next ≡ open_after_all first taken

-- no record that fits there has the body
abbrev pub NoneFits : Tier → ℕ → List ℕ → Type 0
NoneFits tier first body = (r : List Fact) → body ≡ record_text r → 0 < length r → FactsFit tier first r → ⊥

-- Records that fit were read, and these are their facts. Every image has just these records now.
abbrev pub Opened : Tier → DiskState → DiskState → List Fact → ℕ → Type 0
Opened tier a b facts at = (rs : List (List Fact)) × (records a.bytes ≡ texts rs) × Fit tier rs × (facts ≡ all_facts rs) × HasFacts rs b at

-- The records before the gate at this place fit, and no record that fits after them has the body behind it.
pub record IsMisfitAt (tier : Tier) (at : ℕ) (bodies : List (List ℕ)) : Type 0 where
  pub before : List (List Fact)
  pub body : List ℕ
  pub behind : List (List ℕ)
  pub parts : bodies ≡ texts before ++ body ∷ behind
  pub fit : Fit tier before
  pub place : at + 1 ≡ size_of (texts before)
  pub misfit : (r : List Fact) → body ≡ record_text r → Fit tier (before ++ r ∷ []) → ⊥

-- A restart refuses these bytes there: by a bad gate, or, where none is bad, by the first record that doesn't fit.
abbrev pub IsRefusedAt : Tier → ℕ → List ℕ → Type 0
IsRefusedAt tier at bytes = IsBadAt at bytes ⊎ (IsSound bytes × IsMisfitAt tier at (records bytes))

-- One of the lists was read: these are its facts, and the disk has its records alone, with the shut gate at this place.
abbrev pub ReadsOne : List (List (List Fact)) → DiskState → List Fact → ℕ → Type 0
ReadsOne lists s facts at = (k : ℕ) × (rs : List (List Fact)) × (slice_get lists k ≡ Some rs) × (facts ≡ all_facts rs) × HasFacts rs s at
