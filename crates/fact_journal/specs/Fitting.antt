-- Which records fit a node of a tier.
use Rattle.std.specs.Prelude.{◌≡◌, ℕ, ◌+◌, ◌<◌, List, [], ◌∷◌, ◌++◌, length, Bool, true, ◌&&◌, ◌==◌}
use Rattle.aeg_base.specs.declared.names.Tier.{Tier}
use Rattle.log_values.specs.declared.fact.Fact.{Fact}
use Rattle.log_values.specs.declared.fact.Fact.TheVariants.{Promised, Accepted, Learned, Held}
use Rattle.log_values.specs.Records.{FitsFact}
use Rattle.frames.specs.LogMessages.{is_carried}

-- A value stands at a position where a frame of the tier can carry it, and a Learned fact at the first open position.
abbrev pub is_placed : Tier → ℕ → Fact → Bool
is_placed tier first (Promised b) = true
is_placed tier first (Accepted p b v) = is_carried tier p v
is_placed tier first (Learned p v) = (p == first) && is_carried tier p v
is_placed tier first (Held t number code) = true

-- the first open position after the fact
abbrev pub open_after : ℕ → Fact → ℕ
open_after first (Promised b) = first
open_after first (Accepted p b v) = first
open_after first (Learned p v) = first + 1
open_after first (Held t number code) = first

-- the first open position after the facts
abbrev pub open_after_all : ℕ → List Fact → ℕ
open_after_all first [] = first
open_after_all first (f ∷ fs) = open_after_all (open_after first f) fs

-- it can be written, and stands at its place
abbrev pub FitsNode : Tier → ℕ → Fact → Type 0
FitsNode tier first f = FitsFact f × (is_placed tier first f ≡ true)

-- facts fit a node of the tier, where so many positions were learned before them
abbrev pub FactsFit : Tier → ℕ → List Fact → Type 0
FactsFit tier first [] = Unit {0}
FactsFit tier first (f ∷ fs) = FitsNode tier first f × FactsFit tier (open_after first f) fs

-- records fit, each with one fact or more, where so many positions were learned before them
abbrev pub RecordsFit : Tier → ℕ → List (List Fact) → Type 0
RecordsFit tier first [] = Unit {0}
RecordsFit tier first (r ∷ rs) = (0 < length r) × (FactsFit tier first r × RecordsFit tier (open_after_all first r) rs)

-- the records of a journal fit a node of the tier
abbrev pub Fit : Tier → List (List Fact) → Type 0
Fit tier rs = RecordsFit tier 0 rs

-- the facts of the records, the oldest one first
abbrev pub all_facts : List (List Fact) → List Fact
all_facts [] = []
all_facts (r ∷ rs) = r ++ all_facts rs

-- each of the lists of records fits
abbrev pub EachFits : Tier → List (List (List Fact)) → Type 0
EachFits tier [] = Unit {0}
EachFits tier (rs ∷ lists) = Fit tier rs × EachFits tier lists
