-- The words of the laws.
use Rattle.std.specs.Prelude.{◌≡◌, ◌⊎◌, ◌<◌, ◌≤◌, ◌^◌, ◌+◌, ◌*◌, ℕ, Bool, true, false, List, [], ◌∷◌, ◌++◌, length, take, Some, slice_get}
use Rattle.aeg_base.specs.Store.{Store, value_at}
use Rattle.aeg_base.specs.declared.names.Key.{Key}
use Rattle.svc_api.specs.Plan.{IsKey}
use Rattle.aeg_base.specs.declared.names.ReqId.{ReqId}
use Rattle.svc_api.specs.Segment.{GoesOn}
use Rattle.svc_api.specs.Requests.{IsRequest}
use Rattle.exec_model.specs.declared.job.Seg.{Seg}
use Rattle.exec_model.specs.Jobs.{run_job}
use Rattle.exec_model.specs.Outcomes as changes
use Rattle.aeg_base.specs.declared.names.Tier.{Tier}
use Rattle.aeg_base.specs.declared.names.Tier.TheVariants.{Mid as InMid, Inv, Pay}
use Rattle.server_model.specs.Server.{found_in}
use Rattle.server_model.specs.History.{replies, calls, served, server_after, told_by}
use Rattle.server_model.specs.Server.{step as step_at}
use Rattle.server_model.specs.declared.history.Hist.{Hist}
use Rattle.server_model.specs.declared.history.Hist.TheVariants.{Start, Serve, Resume}
use Rattle.server_model.specs.declared.history.Told.TheVariants.{Replied}
use Rattle.log_model.specs.Log.{LogState, count_below}
use Rattle.log_model.specs.Recover.{newest, recover}
use Rattle.log_model.specs.Nodes.{Mode, Node}
use Rattle.log_model.specs.Nodes.Mode.{Up, Down, Gone}
use Rattle.log_values.specs.declared.any_value.AnyValue.{AnyValue}
use Rattle.log_values.specs.declared.mid_value.Verdict.{Verdict}
use Rattle.log_values.specs.declared.mid_value.Verdict.TheVariants.{Commit, Serial}
use Rattle.log_values.specs.declared.fact.Fact.{Fact}
use Rattle.round_model.specs.Lists.{tabulate}
use Rattle.round_model.specs.Service.{Programs, Backend, meaning, serial, serial_end, finish, is_order, token_of}
use Rattle.round_model.specs.Tables.{Number, Want}
use Rattle.round_model.specs.After.{Round, round, after}
use Rattle.round_model.specs.Verdicts.{Vote}
use Rattle.round_model.specs.Held.{held_code}
use Rattle.round_model.specs.Numbered.{find}
use Rattle.tier_model.specs.Moves.{log_facts, held_in}
use Rattle.tier_model.specs.Back.{Back}
use Rattle.tier_model.specs.Kinds.{State}
use Rattle.run_model.specs.World.{Config, World, log_at}
use Rattle.run_model.specs.Histories.{HistoryStep, back_run, floor_of}
use Rattle.run_model.specs.Runs.{served_of, world}
use Rattle.run_model.specs.declared.trace.TraceEvent.{TraceEvent}

-- WHAT A SERVICE'S LAWS GIVE

-- keys of a store, with numbers of 64 bits
pub record IsStore (s : Store) : Type 0 where
  pub keys : (k : Key) → (value_at s k ≡ 0 → ⊥) → IsKey k
  pub values : (k : Key) → value_at s k < 2 ^ 64

-- at most 16 segments, each of a request
pub record IsJob (J : List Seg) : Type 0 where
  pub short : length J ≤ 16
  pub asked : (i : ℕ) (j : Seg) → slice_get J i ≡ Some j → IsRequest j.who

-- A run's order of finishing is an order of its job, and its store and ends are those of the segments one after another
-- in that order. Stores stay stores, and a token is read as the outcome that it spells. A request whose segment calls has
-- the stage that the call names.
pub record Laws (m : Programs) : Type 0 where
  pub orders : (J : List Seg) (s : Store) (schedule : List ℕ) → is_order (length J) (run_job m.begins J s schedule).order ≡ true
  pub store : (J : List Seg) (s : Store) (schedule : List ℕ) → (run_job m.begins J s schedule).store ≡ serial m J (run_job m.begins J s schedule).order s
  pub ends : (J : List Seg) (s : Store) (schedule : List ℕ) → (run_job m.begins J s schedule).ends
      ≡ tabulate (length J) (serial_end m J (run_job m.begins J s schedule).order s)
  pub stores : (J : List Seg) (order : List ℕ) (s : Store) → IsJob J → is_order (length J) order ≡ true → IsStore s → IsStore (serial m J order s)
  pub reads : (J : List Seg) (order : List ℕ) (s : Store) → IsJob J → is_order (length J) order ≡ true → IsStore s
      → m.read (token_of m s (finish m J order s)) ≡ Some (changes.outcome s (finish m J order s).store (finish m J order s).ends)
  pub again : (who : ReqId) (body : List ℕ) (stage : ℕ) → GoesOn (m.table who body stage) (m.table who body)

-- THE HISTORY

-- the history has this reply to the request
abbrev pub HasReply : {B : Type 0} → Config B → World B → ReqId → List ℕ → Type 0
HasReply c w who text = (j : ℕ) × (slice_get (replies (meaning c.service) w.hist) j ≡ Some (who, text))

-- it makes this call
abbrev pub HasCall : {B : Type 0} → Config B → World B → Tier → ℕ → List ℕ → Type 0
HasCall c w t n text = found_in (calls (meaning c.service) w.hist) t n ≡ Some text

-- it serves the call with this code
abbrev pub HasAnswer : {B : Type 0} → Config B → World B → Tier → ℕ → ℕ → Type 0
HasAnswer c w t n code = found_in (served (meaning c.service) w.hist) t n ≡ Some code

-- the request was submitted with this text
abbrev pub WasSubmitted : {B : Type 0} → World B → ReqId → List ℕ → Type 0
WasSubmitted w who body = (j : ℕ) × (slice_get w.submitted j ≡ Some (record { client = who.client; seq = who.seq; body = body }))

-- the step at this place of the history replies to the request with this text
pub record RepliesAt {B : Type 0} (c : Config B) (w : World B) (place : ℕ) (who : ReqId) (text : List ℕ) : Type 0 where
  pub step : HistoryStep
  pub is_step : slice_get w.hist place ≡ Some step
  pub tells : told_by (step_at (meaning c.service) (server_after (meaning c.service) (take place w.hist)) step.0 step.1) ≡ Replied who text ∷ []

-- the step is one of the request
abbrev pub IsOf : ReqId → Hist → Type 0
IsOf who (Start asked n) = asked ≡ who
IsOf who (Resume asked n) = asked ≡ who
IsOf who (Serve t n) = ⊥

-- the second list begins with the first
abbrev pub IsFront : {A : Type 0} → List A → List A → Type 0
IsFront {A} xs ys = (rest : List A) × (ys ≡ xs ++ rest)

-- LOGS

abbrev pub chosen_log : {B : Type 0} → World B → Tier → List AnyValue
chosen_log w t = w.logs t

-- in a state with this log the value was learned at p
abbrev pub LearnedBy : {S : Type 0} → (S → LogState AnyValue) → Mode S → ℕ → AnyValue → Type 0
LearnedBy log (Up σ) p v = slice_get (log σ).learned p ≡ Some v
LearnedBy log Down p v = ⊥
LearnedBy log Gone p v = ⊥

-- the node x of the tier is up and has learned the value at p
abbrev pub HasLearned : {B : Type 0} → Config B → World B → Tier → ℕ → ℕ → AnyValue → Type 0
HasLearned c w t x p v = LearnedBy (log_at c t) (w.nodes t x).mode p v

-- the disk of a node that isn't gone may stand for these records
abbrev pub StandsFor : {S : Type 0} → Node S Fact → Mode S → List (List Fact) → Type 0
StandsFor node (Up s) records = node.records ≡ records
StandsFor node Down records = (node.records ≡ records) ⊎ ((k : ℕ) × (slice_get node.others k ≡ Some records))
StandsFor node Gone records = ⊥

abbrev pub DiskStandsFor : {B : Type 0} → World B → Tier → ℕ → List (List Fact) → Type 0
DiskStandsFor w t x records = StandsFor (w.nodes t x) (w.nodes t x).mode records

-- what a restart learns from these records
abbrev pub learned_from : ℕ → List (List Fact) → List AnyValue
learned_from u records = (recover u (log_facts (newest records))).learned

-- STATES

-- A backend node has the backend of its learned calls, the first of each number. A code of these is kept or below the
-- floor, a kept code is one of these and not below the floor, and the floor is the greatest that was settled.
pub record BackApplied {B : Type 0} (b : Backend B) (σ : Back B) : Type 0 where
  pub state : σ.state ≡ (back_run b σ.log.learned).state
  pub codes : (n code : ℕ) → (back_run b σ.log.learned).code n ≡ Some code → (n < σ.shim.floor) ⊎ (find σ.shim.kept n ≡ Some code)
  pub kept : (n code : ℕ) → find σ.shim.kept n ≡ Some code → (back_run b σ.log.learned).code n ≡ Some code
  pub above : (n code : ℕ) → find σ.shim.kept n ≡ Some code → σ.shim.floor ≤ n
  pub below : (n : ℕ) → 0 < n → n < σ.shim.floor → (code : ℕ) × ((back_run b σ.log.learned).code n ≡ Some code)
  pub floor : σ.shim.floor ≡ floor_of σ.log.learned

-- a middle node has the store and tables of its applied rounds
abbrev pub IsApplied : {B : Type 0} → Config B → World B → (t : Tier) → State B t → Type 0
IsApplied c w InMid σ = after c.service.programs c.depth (w.logs InMid) (served_of c w) σ.applied ≡ Some σ.tables
IsApplied c w Inv σ = BackApplied (c.service.backend Inv) σ
IsApplied c w Pay σ = BackApplied (c.service.backend Pay) σ

-- a node that is up
abbrev pub HasApplied : {B : Type 0} → Config B → World B → (t : Tier) → Mode (State B t) → Type 0
HasApplied c w t (Up σ) = IsApplied c w t σ
HasApplied c w t Down = Unit {0}
HasApplied c w t Gone = Unit {0}

-- VERDICTS AND DURABILITY

-- the run is one of the world's
abbrev pub DidRun : {B : Type 0} → World B → Vote → Type 0
DidRun w v = (i : ℕ) × (slice_get w.runs i ≡ Some v)

-- A run is by a node of the tier. Its order is one of its round's job, and its token is what the job comes to in that order.
pub record IsRun {B : Type 0} (c : Config B) (w : World B) (v : Vote) : Type 0 where
  pub inside : v.from < 2 * c.u + 1
  pub made : Round
  pub is_round : round c.service.programs c.depth (w.logs InMid) (served_of c w) v.round ≡ Some made
  pub is_ordered : is_order (length made.job) v.order ≡ true
  pub is_token : v.token ≡ token_of c.service.programs made.tables.store (finish c.service.programs made.job v.order made.tables.store)

-- The node y ran the round to this token.
abbrev pub RanTo : {B : Type 0} → World B → ℕ → List ℕ → ℕ → Type 0
RanTo w r token y = (v : Vote) × DidRun w v × (v.round ≡ r) × (v.from ≡ y) × (v.token ≡ token)

-- More than u nodes of the tier ran the round to the token of a Commit, and one of these had its order. Two nodes of the tier
-- ran the round of a Serial to different tokens.
abbrev pub Caused : {B : Type 0} → Config B → World B → ℕ → Verdict → Type 0
Caused c w r (Commit token order) = ((ys : ℕ → Bool) × (c.u < count_below (2 * c.u + 1) ys) × ((y : ℕ) → ys y ≡ true → (y < 2 * c.u + 1) × RanTo w r token y)
    × ((v : Vote) × DidRun w v × (v.round ≡ r) × (ys v.from ≡ true) × (v.token ≡ token) × (v.order ≡ order)))
Caused c w r Serial = (v : Vote) × (u : Vote) × DidRun w v × DidRun w u × (v.round ≡ r) × (u.round ≡ r)
    × (v.from < 2 * c.u + 1) × (u.from < 2 * c.u + 1) × (v.token ≡ u.token → ⊥) × (v.from ≡ u.from → ⊥)

abbrev pub is_gone : {S : Type 0} → Mode S → Bool
is_gone (Up s) = false
is_gone Down = false
is_gone Gone = true

-- at most u of the middle nodes are gone
abbrev pub FewGone : {B : Type 0} → Config B → World B → Type 0
FewGone c w = count_below (2 * c.u + 1) (λ x. is_gone (w.nodes InMid x).mode) ≤ c.u

-- a middle node that isn't gone has the answer in each list that its disk stands for
pub record Durable {B : Type 0} (c : Config B) (w : World B) (t : Tier) (n : ℕ) : Type 0 where
  pub node : ℕ
  pub inside : node < 2 * c.u + 1
  pub here : is_gone (w.nodes InMid node).mode ≡ false
  pub code : ℕ
  pub is_served : HasAnswer c w t n code
  pub is_held : (records : List (List Fact)) → StandsFor (w.nodes InMid node) (w.nodes InMid node).mode records
      → held_code (held_in c.u node (newest records)) t n ≡ Some code

-- the round stands at the world, and each call that it waits for is durable there
pub record UsedBefore {B : Type 0} (c : Config B) (w : World B) (r : ℕ) : Type 0 where
  pub made : Round
  pub is_round : round c.service.programs c.depth (w.logs InMid) (served_of c w) r ≡ Some made
  pub held : (j : ℕ) (q : Want) (k : Number) → slice_get made.wants j ≡ Some q → q.call ≡ Some k → Durable c w k.tier k.num

-- HOLDERS

-- After a first part of the events the node x was not gone, and each list that its disk stood for had the answer.
pub record Holds {B : Type 0} (c : Config B) (es : List TraceEvent) (t : Tier) (n x : ℕ) : Type 0 where
  pub before : List TraceEvent
  pub after : List TraceEvent
  pub is_all : es ≡ before ++ after
  pub here : is_gone ((world c before).nodes InMid x).mode ≡ false
  pub had : (records : List (List Fact))
      → StandsFor ((world c before).nodes InMid x) ((world c before).nodes InMid x).mode records → (code : ℕ)
      × (held_code (held_in c.u x (newest records)) t n ≡ Some code)

-- more than u of the middle nodes hold the answer
abbrev pub ManyHolders : {B : Type 0} → Config B → List TraceEvent → Tier → ℕ → Type 0
ManyHolders c es t n = (xs : ℕ → Bool) × (c.u < count_below (2 * c.u + 1) xs) × ((x : ℕ) → x < 2 * c.u + 1 → xs x ≡ true → Holds c es t n x)

-- the round stands after the events, and each call that it waits for has many holders by then
pub record HeldBefore {B : Type 0} (c : Config B) (es : List TraceEvent) (r : ℕ) : Type 0 where
  pub made : Round
  pub is_round : round c.service.programs c.depth ((world c es).logs InMid) (served_of c (world c es)) r ≡ Some made
  pub held : (j : ℕ) (q : Want) (k : Number) → slice_get made.wants j ≡ Some q → q.call ≡ Some k → ManyHolders c es k.tier k.num
