-- A backend node: its state, and how it takes the values that its log learns.
use Rattle.std.specs.Prelude.{ℕ, ◌+◌, ◌*◌, Bool, ◌||◌, nat_lt, List, [], ◌∷◌, ◌++◌, length, map, slice_get, Option, Some, None, if◌then◌else◌}
use Rattle.aeg_base.specs.declared.names.Tier.{Tier}
use Rattle.aeg_base.specs.declared.names.Tier.TheVariants as tiers
use Rattle.log_model.specs.Log.{LogState, Turn, nobody}
use Rattle.log_values.specs.declared.any_value.AnyValue.{AnyValue}
use Rattle.log_values.specs.declared.any_value.AnyValue.TheVariants.{Mid, Back as InBack}
use Rattle.log_values.specs.declared.back_value.BackValue.TheVariants.{Call, Settle}
use Rattle.frames.specs.declared.message.Msg.TheVariants as msgs
use Rattle.round_model.specs.Lists.{is_some, each}
use Rattle.round_model.specs.Service.{Backend}
use Rattle.round_model.specs.Shims.{ShimState, is_done}
use Rattle.round_model.specs.Shims as shims
use Rattle.tier_model.specs.Moves.{node, Packet, Move, log_packets, as_fact, log_answer}

-- the log, the backend, and what is kept between them and the middle nodes: answers, copies of calls, floors
pub record Back (B : Type 0) : Type 0 where
  pub log : LogState AnyValue
  pub state : B
  pub shim : ShimState

abbrev pub with_log : {B : Type 0} → Back B → LogState AnyValue → Back B
with_log σ log = record σ { log = log }

abbrev pub answer_to : Tier → ℕ → ℕ → ℕ → ℕ → Packet
answer_to t x n code y = record { from = node t x; to = node tiers.Mid y; message = msgs.Answer n code }

-- LEARNING A VALUE

-- the call is served, and its code kept
abbrev pub serves : {B : Type 0} → Backend B → Back B → ℕ → List ℕ → Back B
serves b σ n text = record σ { state = (b.serve σ.state text).state; shim = shims.serves σ.shim n (b.serve σ.state text).code }

-- a call below the floor, or that was served, is passed over
abbrev pub passes : {B : Type 0} → Back B → ℕ → Bool
passes σ n = is_done σ.shim n

-- the floor rises, and what is below it is dropped
abbrev pub settles : {B : Type 0} → Back B → ℕ → Back B
settles σ g = record σ { shim = shims.settles σ.shim g }

abbrev pub after_value : {B : Type 0} → Backend B → Back B → AnyValue → Back B
after_value b σ (Mid v) = σ
after_value b σ (InBack (Call n text)) = if passes σ n then σ else serves b σ n text
after_value b σ (InBack (Settle g)) = settles σ g

-- the answer to a call that is served goes to all middle nodes
abbrev pub value_sends : {B : Type 0} → ℕ → Backend B → Tier → ℕ → Back B → AnyValue → List Packet
value_sends u b t x σ (Mid v) = []
value_sends u b t x σ (InBack (Call n text)) = if passes σ n then [] else each (2 * u + 1) nobody (answer_to t x n (b.serve σ.state text).code)
value_sends u b t x σ (InBack (Settle g)) = []

-- the value that a turn of the log learns
abbrev pub new_value : LogState AnyValue → LogState AnyValue → Option AnyValue
new_value old new = if nat_lt (length old.learned) (length new.learned) then slice_get new.learned (length old.learned) else None

abbrev pub value_state : {B : Type 0} → Backend B → Back B → Option AnyValue → Back B
value_state b σ None = σ
value_state b σ (Some v) = after_value b σ v

abbrev pub value_tells : {B : Type 0} → ℕ → Backend B → Tier → ℕ → Back B → Option AnyValue → List Packet
value_tells u b t x σ None = []
value_tells u b t x σ (Some v) = value_sends u b t x σ v

-- a turn of the log; what it learns is taken, after the log's own packets
abbrev pub in_log : {B : Type 0} → ℕ → Backend B → Tier → ℕ → Back B → Turn AnyValue → Move (Back B)
in_log u b t x σ turn = record {
  state = value_state b (with_log σ turn.state) (new_value σ.log turn.state);
  facts = map as_fact turn.facts;
  sends = log_packets t x turn.sends ++ value_tells u b t x (with_log σ turn.state) (new_value σ.log turn.state);
  answer = log_answer turn.idle;
}
