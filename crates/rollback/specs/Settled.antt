-- What a verdict makes of a job.
use Rattle.std.specs.Prelude.{◌≡◌, ℕ, List, length, Option, Some}
use Rattle.aeg_base.specs.Store.{Store, written_all}
use Rattle.svc_api.specs.declared.outcome.Outcome.{Outcome}
use Rattle.exec_model.specs.declared.job.Seg.{Seg}
use Rattle.exec_model.specs.Jobs.{Beginnings, below, serial_store, serial_ends}
use Rattle.exec_model.specs.Outcomes.{outcome}
use Rattle.log_values.specs.declared.mid_value.Verdict.{Verdict}
use Rattle.log_values.specs.declared.mid_value.Verdict.TheVariants.{Commit, Serial}
use Rattle.log_values.specs.Outcomes.{outcome as spelling, outcome_at, FitsOutcome}
use Rattle.log_values.specs.Reading.{whole}

-- the outcome that a token tells
abbrev pub told : List ℕ → Option Outcome
told token = whole (outcome_at token)

-- a Commit's token reads as an outcome with so many ends
pub record Reads (token : List ℕ) (n : ℕ) : Type 0 where
  pub told_as : Outcome
  pub reads : told token ≡ Some told_as
  pub each : length told_as.ends ≡ n

abbrev pub IsReadable : Verdict → ℕ → Type 0
IsReadable (Commit token order) n = Reads token n
IsReadable Serial n = Unit {0}

abbrev pub IsSerial : Verdict → Type 0
IsSerial (Commit token order) = ⊥
IsSerial Serial = Unit {0}

-- what the segments come to, one after another in this order
abbrev pub serial_outcome : Beginnings → List Seg → Store → List ℕ → Outcome
serial_outcome begins segs s order = outcome s (serial_store begins segs s order) (serial_ends begins segs s order)

-- the token is the encoded outcome of the segments in this order
pub record IsTokenOf (begins : Beginnings) (segs : List Seg) (s : Store) (order token : List ℕ) : Type 0 where
  pub fits : FitsOutcome (serial_outcome begins segs s order)
  pub spelled : token ≡ spelling (serial_outcome begins segs s order)

-- the verdict is a Commit with this token
abbrev pub HasToken : Verdict → List ℕ → Type 0
HasToken (Commit token order) own = token ≡ own
HasToken Serial own = ⊥

-- A Commit writes its token's pairs to the store at the job's start, and has the token's ends. At Serial the segments
-- run one after another in job order.
abbrev pub Settled : Beginnings → List Seg → Verdict → Store → Store → Outcome → Type 0
Settled begins segs (Commit token order) s t o = (told token ≡ Some o) × (t ≡ written_all s o.pairs)
Settled begins segs Serial s t o =
    (t ≡ serial_store begins segs s (below (length segs))) × (o ≡ serial_outcome begins segs s (below (length segs)))
