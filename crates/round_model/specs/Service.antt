-- What the tiers run: programs at the middle one, a backend at each of the others. What a job's segments come to.
use Rattle.std.specs.Prelude.{ℕ, Bool, ◌==◌, List, [], ◌∷◌, length, slice_get, Option, Some, None, if◌then◌else◌}
use Rattle.aeg_base.specs.Store.{Store, written_all}
use Rattle.aeg_base.specs.declared.names.ReqId.{ReqId}
use Rattle.aeg_base.specs.declared.names.Tier.{Tier}
pub use Rattle.svc_api.specs.Orders.{times, all_below, each_once, is_order}
use Rattle.svc_api.specs.Segment.{Segment}
use Rattle.svc_api.specs.declared.action.Ending.{Ending}
use Rattle.svc_api.specs.declared.action.Ending.TheVariants.{Reply}
use Rattle.svc_api.specs.declared.outcome.Outcome.{Outcome}
use Rattle.server_model.specs.Backends.{Served}
use Rattle.server_model.specs.Server.{Meaning}
use Rattle.exec_model.specs.declared.job.Seg.{Seg}
use Rattle.exec_model.specs.Jobs.{Beginnings}
use Rattle.exec_model.specs.Outcomes as changes
use Rattle.round_model.specs.Lists.{is_some, tabulate}

-- the rows of a service, by request, text and stage
abbrev pub Table : Type 0
Table = ReqId → List ℕ → ℕ → Option (Option ℕ → Store → Segment)

-- What a middle node runs: its table, how its segments begin, the bytes of a job's outcome, and the outcome that bytes
-- spell.
pub record Programs : Type 0 where
  pub table : Table
  pub begins : Beginnings
  pub spell : Outcome → List ℕ
  pub read : List ℕ → Option Outcome

-- what a backend node runs: its state at first, and what a call makes of it
pub record Backend (B : Type 0) : Type 0 where
  pub opening : B
  pub serve : B → List ℕ → Served B

pub record Service (B : Type 0) : Type 0 where
  pub programs : Programs
  pub backend : Tier → Backend B

-- what one server makes of them
abbrev pub meaning : {B : Type 0} → Service B → Meaning B
meaning m = record { table = m.programs.table; opening = λ t. (m.backend t).opening; serve = λ t. (m.backend t).serve }

-- SEGMENTS

-- the text is a request of this client
abbrev pub is_request : Programs → ReqId → List ℕ → Bool
is_request m who body = is_some (m.table who body 0)

-- the request has a segment at the stage
abbrev pub has_stage : Programs → ReqId → List ℕ → ℕ → Bool
has_stage m who body stage = is_some (m.table who body stage)

-- a row of the table; where there is none, nothing happens
abbrev pub row_of : Option (Option ℕ → Store → Segment) → Option ℕ → Store → Segment
row_of None answer s = record { store = s; ending = Reply []; keys = [] }
row_of (Some row) answer s = row answer s

-- a segment, run whole and at once
abbrev pub run : Programs → Seg → Store → Segment
run m j s = row_of (m.table j.who j.body j.stage) j.answer s

abbrev pub segment : Programs → Option Seg → Store → Segment
segment m None s = record { store = s; ending = Reply []; keys = [] }
segment m (Some j) s = run m j s

-- JOBS, ONE SEGMENT AFTER ANOTHER

abbrev pub serial : Programs → List Seg → List ℕ → Store → Store
serial m J [] s = s
serial m J (i ∷ is) s = serial m J is (segment m (slice_get J i) s).store

-- how segment k ends
abbrev pub serial_end : Programs → List Seg → List ℕ → Store → ℕ → Ending
serial_end m J [] s k = Reply []
serial_end m J (i ∷ is) s k = if i == k then (segment m (slice_get J i) s).ending else serial_end m J is (segment m (slice_get J i) s).store k

-- what a job comes to: the store after it, and the ends of its segments in job order
pub record Finish : Type 0 where
  pub store : Store
  pub ends : List Ending

abbrev pub finish : Programs → List Seg → List ℕ → Store → Finish
finish m J order s = record { store = serial m J order s; ends = tabulate (length J) (serial_end m J order s) }

-- TOKENS

-- the token of a job that was begun on the store s
abbrev pub token_of : Programs → Store → Finish → List ℕ
token_of m s f = m.spell (changes.outcome s f.store f.ends)

-- what a token's outcome makes of the store at the job's start
abbrev pub finish_by : Store → Outcome → Finish
finish_by s o = record { store = written_all s o.pairs; ends = o.ends }
