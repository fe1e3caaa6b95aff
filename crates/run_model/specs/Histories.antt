-- The history that the chosen logs make, and what a backend's log comes to.
use Rattle.std.specs.Prelude.{ℕ, Bool, true, false, ◌==◌, nat_lt, List, [], ◌∷◌, length, slice_get, Option, Some, None, if◌then◌else◌}
use Rattle.aeg_base.specs.declared.names.Tier.{Tier}
use Rattle.aeg_base.specs.declared.names.Tier.TheVariants.{Inv}
use Rattle.server_model.specs.History.{History}
use Rattle.server_model.specs.declared.history.Hist.{Hist}
use Rattle.server_model.specs.declared.history.Hist.TheVariants.{Start, Serve, Resume}
use Rattle.log_values.specs.declared.any_value.AnyValue.{AnyValue}
use Rattle.log_values.specs.declared.any_value.AnyValue.TheVariants.{Mid, Back}
use Rattle.log_values.specs.declared.mid_value.MidValue.TheVariants.{Batch, Verdict as Decided}
use Rattle.log_values.specs.declared.back_value.BackValue.TheVariants.{Call, Settle}
use Rattle.log_values.specs.declared.mid_value.Verdict.{Verdict}
use Rattle.round_model.specs.Lists.{at, is_some, half}
use Rattle.round_model.specs.Service.{Programs, Backend, finish, is_order}
use Rattle.round_model.specs.Tables.{Want, numbers, Codes}
use Rattle.round_model.specs.After.{order_in, Round, round}

-- a step of the history, with the text of its request where it starts one
abbrev pub HistoryStep : Type 0
HistoryStep = Hist × List ℕ

-- a segment starts its request, or goes on with it; the number is that of its call
abbrev pub want_step : Want → ℕ → HistoryStep
want_step w num = elim w.call [
  | None ↦ (
    Start (record { client = w.client; seq = w.seq }) num,
    w.body,
  )
  | Some k ↦ (Resume (record { client = w.client; seq = w.seq }) num, [])
]

abbrev pub step_of : Option Want → ℕ → HistoryStep
step_of None num = (Serve Inv 0, [])
step_of (Some w) num = want_step w num

abbrev pub steps_by : List Want → List ℕ → List ℕ → History
steps_by ws nums [] = []
steps_by ws nums (i ∷ is) = step_of (slice_get ws i) (at 0 nums i) ∷ steps_by ws nums is

-- a step that the one server always refuses
abbrev pub no_step : History
no_step = (Serve Inv 0, []) ∷ []

-- one step for each segment of a round, in the verdict's order, with the numbers that the tables give
abbrev pub ordered_steps : Programs → Round → List ℕ → History
ordered_steps m R order = if is_order (length R.job) order then steps_by R.wants
    (numbers R.tables.next (finish m R.job order R.tables.store).ends) order else no_step

abbrev pub verdict_steps : Programs → Option Round → Verdict → History
verdict_steps m None v = no_step
verdict_steps m (Some R) v = ordered_steps m R (order_in (length R.job) v)

-- what a value at the end of this middle log adds to the history
abbrev pub value_steps : Programs → ℕ → List AnyValue → Codes → AnyValue → History
value_steps m depth L A (Back v) = []
value_steps m depth L A (Mid (Batch es)) = []
value_steps m depth L A (Mid (Decided v)) = verdict_steps m (round m depth L A (half (length L))) v

-- the number stands at an earlier position
abbrev pub is_called : ℕ → List AnyValue → Bool
is_called n [] = false
is_called n (Back (Call k text) ∷ vs) = if k == n then true else is_called n vs
is_called n (Back (Settle g) ∷ vs) = is_called n vs
is_called n (Mid v ∷ vs) = is_called n vs

-- what a value at the end of this backend's log adds: a call is served where its number is new
abbrev pub back_steps : Tier → List AnyValue → AnyValue → History
back_steps t before (Back (Call n text)) = if is_called n before then [] else (Serve t n, []) ∷ []
back_steps t before (Back (Settle g)) = []
back_steps t before (Mid v) = []

-- A BACKEND AFTER A LOG

-- its state, and the codes of the calls that it served, the first of a number first
pub record BackRun (B : Type 0) : Type 0 where
  pub state : B
  pub code : ℕ → Option ℕ

abbrev pub put : {A : Type 0} → (ℕ → A) → ℕ → A → ℕ → A
put f x a y = if y == x then a else f y

abbrev pub back_serve : {B : Type 0} → Backend B → BackRun B → ℕ → List ℕ → BackRun B
back_serve b R n text = record { state = (b.serve R.state text).state; code = put R.code n (Some (b.serve R.state text).code) }

-- the first call of each number is served
abbrev pub back_value : {B : Type 0} → Backend B → BackRun B → AnyValue → BackRun B
back_value b R (Back (Call n text)) = if is_some (R.code n) then R else back_serve b R n text
back_value b R (Back (Settle g)) = R
back_value b R (Mid v) = R

abbrev pub back_from : {B : Type 0} → Backend B → BackRun B → List AnyValue → BackRun B
back_from b R [] = R
back_from b R (v ∷ vs) = back_from b (back_value b R v) vs

abbrev pub back_run : {B : Type 0} → Backend B → List AnyValue → BackRun B
back_run b vs = back_from b (record { state = b.opening; code = λ n. None }) vs

abbrev pub floor_value : ℕ → AnyValue → ℕ
floor_value f (Back (Call n text)) = f
floor_value f (Back (Settle g)) = if nat_lt f g then g else f
floor_value f (Mid v) = f

abbrev pub floor_from : ℕ → List AnyValue → ℕ
floor_from f [] = f
floor_from f (v ∷ vs) = floor_from (floor_value f v) vs

-- the greatest floor that was settled there, 1 where there is none
abbrev pub floor_of : List AnyValue → ℕ
floor_of vs = floor_from 1 vs
