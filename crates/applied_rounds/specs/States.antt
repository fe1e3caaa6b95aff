-- How far rounds are applied, what they came to, and the run of the next one.
use Rattle.std.specs.Prelude.{◌≡◌, ℕ, suc, List, [], length, Option, Some, None, option_map, IfSome}
use Rattle.aeg_base.specs.Store.{Store}
use Rattle.svc_api.specs.declared.outcome.Outcome.{Outcome}
use Rattle.exec_model.specs.declared.job.Seg.{Seg}
use Rattle.log_values.specs.declared.mid_value.Verdict.{Verdict}
use Rattle.kv_store.specs.Stores.{Holding, unwound}
use Rattle.exec_model.specs.Jobs.{Beginnings, Run}
use Rattle.exec_model.specs.Outcomes as changes
use Rattle.log_values.specs.Outcomes.{outcome, outcome_at}
use Rattle.log_values.specs.Reading.{whole}
use Rattle.round_model.specs.declared.claim.Claim.{Claim}
use Rattle.round_model.specs.Service.{Programs, Table, Finish}
use Rattle.round_model.specs.Tables.{Tables, Want, tables0, settled}
use Rattle.batcher.specs.Clients.{ClientTable, Agrees}
use Rattle.pipeline.specs.States.{RoundsState}
use Rattle.pipeline.specs.Kept.{IsInRange}
use Rattle.spec_barrier.specs.Barriers.{BarrierState, held_of}
use Rattle.rollback.specs.Settled.{Settled}
use Rattle.rollback.specs.declared.spec.Spec.{Spec}
use Rattle.rollback.specs.Specs.{IsLeftBy}
use Rattle.rollback.specs.Views.{job_of, ran_of, token_of}

-- how many rounds are applied, the tables that they came to, and what the node claims of the next round, where it ran
-- it
pub record AppliedState : Type 0 where
  pub applied : ℕ
  pub tables : Tables
  pub run : Option Claim

-- what a service's rows and programs are to a middle node: its tokens have the spelling of outcomes
abbrev pub programs_of : Table → Beginnings → Programs
programs_of table begins = record { table = table; begins = begins; spell = outcome; read = λ token. whole (outcome_at token) }

-- before the first round
abbrev pub none_applied : ℕ → AppliedState
none_applied depth = record { applied = 0; tables = tables0 depth; run = None }

-- after the next round, which came to this
abbrev pub after_round : AppliedState → List Want → Finish → AppliedState
after_round s ws o = record { applied = suc s.applied; tables = settled s.tables ws o; run = None }

-- where it came to something
abbrev pub after_round_if : AppliedState → List Want → Option Finish → AppliedState
after_round_if s ws None = s
after_round_if s ws (Some o) = after_round s ws o

-- what a run of a job from a store claims: the token of what it changed, and the order in which its segments finished
abbrev pub claim_by : Programs → Store → Run → Claim
claim_by m s ran = record { token = m.spell (changes.outcome s ran.store ran.ends); order = ran.order }

-- WHAT IS KEPT

-- the tables that a store, a client table and rounds have
abbrev pub tables_of : Store → ClientTable → RoundsState → Tables
tables_of s clients rounds = record { store = s; last = clients.last; kept = clients.kept; queue = rounds.queue; next = rounds.numbers }

-- the store at the next round's start: a run that stands is undone
abbrev pub start_of : Option Spec → Store → Store
start_of None s = s
start_of (Some spec) s = unwound (ran_of spec).undo.entries s

abbrev pub claim_of : Option Spec → Option Claim
claim_of spec = option_map (λ s. record { token = token_of s; order = (ran_of s).order }) spec

-- the run stands: it left the store so, and each of its segments has an end
pub record Stands (spec : Spec) (store : Holding) : Type 0 where
  pub left : IsLeftBy (ran_of spec) store
  pub each : length (ran_of spec).outcome.ends ≡ length (job_of spec).segs

-- What is kept of the rounds: the clients' table is that of the requests that wait, nothing is held back, as many
-- rounds are out as are applied, and a run stands in the store.
pub record AreKept {T : Type 0} (store : Holding) (clients : ClientTable) (rounds : RoundsState) (run : Option Spec) (barrier : BarrierState T) : Type 0 where
  pub clients_agree : Agrees clients (tables_of (start_of run store.map) clients rounds)
  pub range : IsInRange rounds
  pub out : barrier.applied ≡ rounds.next
  pub nothing : (r : ℕ) → held_of barrier r ≡ []
  pub run_stands : IfSome run (λ spec. Stands spec store)

-- whatever the verdict makes of these segments from the store, it is this
abbrev pub ComesTo : Beginnings → List Seg → Verdict → Store → Finish → Type 0
ComesTo begins segs verdict s o = (t : Store) (out : Outcome) → Settled begins segs verdict s t out → record { store = t; ends = out.ends } ≡ o
