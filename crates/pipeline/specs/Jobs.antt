-- The job of the next round, and what verdicts make of it.
use Rattle.std.specs.Prelude.{◌≡◌, ℕ, ◌≤◌, Bool, true, false, ◌&&◌, not, List, [], ◌∷◌, map, Option, Some, None, option_map}
use Rattle.std.specs.Borrow.{Bor}
use Rattle.std.specs.List.{All}
use Rattle.aeg_base.specs.declared.names.Tier.{Tier}
use Rattle.svc_api.specs.Requests.{IsRequest}
use Rattle.svc_api.specs.declared.action.Ending.{Ending}
use Rattle.svc_api.specs.declared.action.Ending.TheVariants.{Reply, Call}
use Rattle.svc_api.specs.declared.outcome.Outcome.{Outcome}
use Rattle.exec_model.specs.declared.job.Seg.{Seg}
use Rattle.exec_model.specs.declared.job.Job.{Job}
use Rattle.log_values.specs.declared.entry.Entry.{Entry}
use Rattle.log_values.specs.declared.mid_value.Verdict.{Verdict}
use Rattle.log_values.specs.declared.mid_value.Verdict.TheVariants.{Commit, Serial}
use Rattle.log_values.specs.Outcomes.{outcome_at}
use Rattle.log_values.specs.Reading.{whole}
use Rattle.round_model.specs.Lists.{is_some, and_then, concat}
use Rattle.round_model.specs.Service.{Programs, Table, times}
use Rattle.round_model.specs.Settling.{fits}
use Rattle.round_model.specs.Tables.{Want, Number, Codes, Parked, who_of, parked_of, as_seg, job_of, first_missing}
use Rattle.pipeline.specs.States.{RoundsState, next_wants}

-- FRESH ENTRIES

-- a request of a client none of whose requests waits
pub record IsFree (waiting : List Parked) (e : Entry) : Type 0 where
  pub request : IsRequest (who_of e)
  pub idle : parked_of e.client waiting ≡ None

abbrev pub client_of : Entry → ℕ
client_of e = e.client

-- such requests, and no two of one client
pub record AreFresh (s : RoundsState) (fresh : List Entry) : Type 0 where
  pub free : All (IsFree (concat s.queue)) fresh
  pub once : (c : ℕ) → times c (map client_of fresh) ≤ 1

-- the fresh entries, where they are handed in
abbrev pub read : Option (Bor (List Entry)) → Option (List Entry)
read fresh = option_map (λ es. es.now) fresh

-- THE JOB

abbrev pub code_for : Codes → Option Number → Option ℕ
code_for A None = None
code_for A (Some k) = A k.tier k.num

-- the segment, with the answer of its call or none
abbrev pub seg_by : Codes → Want → Seg
seg_by A w = as_seg w (code_for A w.call)

-- the next round's job, with what answers there are
abbrev pub job_with : RoundsState → Codes → List Entry → Job
job_with s A fresh = record { round = s.next; segs = map (seg_by A) (next_wants s fresh) }

abbrev pub in_round : ℕ → List Seg → Option Job
in_round r segs = Some (record { round = r; segs = segs })

-- the next round's job, where each answer is there
abbrev pub next_job : RoundsState → Codes → List Entry → Option Job
next_job s A fresh = and_then (job_of A (next_wants s fresh)) (in_round s.next)

-- the call of its first segment whose answer isn't there
abbrev pub next_missing : RoundsState → Codes → List Entry → Option Number
next_missing s A fresh = first_missing A (next_wants s fresh)

abbrev pub numbered_as : Tier × ℕ → Number
numbered_as call = record { tier = call.0; num = call.1 }

-- a segment, whatever its answer
abbrev pub unanswered : Seg → Seg
unanswered j = record { who = j.who; body = j.body; stage = j.stage; answer = None }

abbrev pub asks_for : Want → Seg
asks_for w = as_seg w None

-- the next round's job for such fresh entries, whatever its answers
pub record IsNextJob (s : RoundsState) (fresh : List Entry) (job : Job) : Type 0 where
  pub fresh_ones : AreFresh s fresh
  pub round : job.round ≡ s.next
  pub segs : map unanswered job.segs ≡ map asks_for (next_wants s fresh)

-- what a segment wants, but for its call
abbrev pub want_of : Seg → Want
want_of j = record { client = j.who.client; seq = j.who.seq; body = j.body; stage = j.stage; call = None }

-- the segment's request, which waits for this call and then goes on at the stage
abbrev pub parked_by : Seg → ℕ → Tier → ℕ → List ℕ → Parked
parked_by j stage tier num text = record { client = j.who.client; seq = j.who.seq; body = j.body; stage = stage; tier = tier; num = num; text = text }

-- a segment of a request
abbrev pub IsAsked : Seg → Type 0
IsAsked j = IsRequest j.who

-- VERDICTS

-- the outcome that a token tells
abbrev pub told : List ℕ → Option Outcome
told token = whole (outcome_at token)

-- its token tells no outcome that fits
abbrev pub misfits_as : Programs → List Want → Option Outcome → Bool
misfits_as m ws None = true
misfits_as m ws (Some o) = not (fits m ws o.ends)

-- it is a Commit that doesn't fit the job
abbrev pub misfits : Programs → List Want → Verdict → Bool
misfits m ws (Commit token order) = misfits_as m ws (m.read token)
misfits m ws Serial = false

-- the call whose answer a verdict lacks: only a Serial looks at answers
abbrev pub lacks : Codes → List Want → Verdict → Option Number
lacks A ws (Commit token order) = None
lacks A ws Serial = first_missing A ws

-- a call has a stage at which its segment's request goes on
abbrev pub goes_on : Table → Seg → Ending → Bool
goes_on table j (Reply text) = true
goes_on table j (Call t stage text) = is_some (table j.who j.body stage)

-- there is one end for each segment, and each goes on
abbrev pub all_go_on : Table → List Seg → List Ending → Bool
all_go_on table [] [] = true
all_go_on table [] (e ∷ es) = false
all_go_on table (j ∷ js) [] = false
all_go_on table (j ∷ js) (e ∷ es) = goes_on table j e && all_go_on table js es

-- a token tells an outcome with which they all go on
abbrev pub tells_well : Table → List Seg → Option Outcome → Bool
tells_well table segs None = false
tells_well table segs (Some o) = all_go_on table segs o.ends

abbrev pub is_serial : Verdict → Bool
is_serial (Commit token order) = false
is_serial Serial = true
