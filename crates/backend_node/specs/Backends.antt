-- A backend's replica, as the rows of its node see it.
use Rattle.std.specs.Prelude.{◌≡◌, ℕ, ◌+◌, ◌*◌, List, [], slice_get, Option, Some, None, if◌then◌else◌}
use Rattle.aeg_base.specs.declared.names.Tier.{Tier}
use Rattle.log_model.specs.Log.{LogState, nobody}
use Rattle.log_values.specs.declared.any_value.AnyValue.{AnyValue}
use Rattle.log_values.specs.declared.any_value.AnyValue.TheVariants.{Mid, Back as InBack}
use Rattle.log_values.specs.declared.back_value.BackValue.TheVariants.{Call, Settle}
use Rattle.log_values.specs.Values.{FitsAny}
use Rattle.round_model.specs.Lists.{each}
use Rattle.round_model.specs.Service.{Backend}
use Rattle.tier_model.specs.Moves.{Packet}
use Rattle.tier_model.specs.Back.{Back, answer_to, passes}
use Rattle.node_log.specs.LogNodes.{Standing}
use Rattle.backend_node.specs.declared.serving.Serving.{Serving}

-- the backend that opens so, goes on so after a call, and answers it with this code
abbrev pub backend_by : {B : Type 0} → B → (B → List ℕ → B) → (B → List ℕ → ℕ) → Backend B
backend_by opening after code = record { opening = opening; serve = λ state call. record { state = after state call; code = code state call } }

-- a log, and what is served from it
abbrev pub back_with : {B : Type 0} → LogState AnyValue → Serving B → Back B
back_with log serving = record { log = log; state = serving.backend; shim = serving.shim }

-- what a node has while it is up
abbrev pub back_of : {B : Type 0} → Standing (Serving B) → Back B
back_of standing = back_with standing.log standing.rest

-- each learned value has a spelling
abbrev pub AllFit : LogState AnyValue → Type 0
AllFit log = (p : ℕ) (v : AnyValue) → slice_get log.learned p ≡ Some v → FitsAny v

-- the number of the call that is served with the value, and its code
abbrev pub answer_by : {B : Type 0} → Backend B → Back B → AnyValue → Option (ℕ × ℕ)
answer_by b σ (Mid v) = None
answer_by b σ (InBack (Call n text)) = if passes σ n then None else Some (n, (b.serve σ.state text).code)
answer_by b σ (InBack (Settle g)) = None

abbrev pub answer_of : {B : Type 0} → Backend B → Back B → Option AnyValue → Option (ℕ × ℕ)
answer_of b σ None = None
answer_of b σ (Some v) = answer_by b σ v

-- an answer goes to all middle nodes
abbrev pub told_to_all : ℕ → Tier → ℕ → Option (ℕ × ℕ) → List Packet
told_to_all u t x None = []
told_to_all u t x (Some answer) = each (2 * u + 1) nobody (answer_to t x answer.0 answer.1)
