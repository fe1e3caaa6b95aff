-- The rows of a backend node, and what a restart restores. The cases of a row are tried in the order in which they stand.
use Rattle.std.specs.Prelude.{ℕ, ◌+◌, ◌*◌, nat_lt, nat_le, List, [], ◌∷◌, ◌++◌, replicate, Option, Some, None, if◌then◌else◌}
use Rattle.aeg_base.specs.declared.names.Tier.{Tier}
use Rattle.aeg_base.specs.declared.names.Tier.TheVariants as tiers
use Rattle.aeg_base.specs.declared.names.End.{End}
use Rattle.log_model.specs.declared.turn.Offering.{Offering}
use Rattle.log_model.specs.declared.turn.Offering.TheVariants.{NotLeader, NoPromises, InFlight, LogFull, Taken, Free}
use Rattle.log_model.specs.Log.{nobody, open_at}
use Rattle.log_model.specs.Rows.{lead, offer, wants, on_msg}
use Rattle.log_model.specs.Recover.{recover}
use Rattle.log_values.specs.declared.any_value.AnyValue.{AnyValue}
use Rattle.log_values.specs.declared.any_value.AnyValue.TheVariants.{Back as InBack}
use Rattle.log_values.specs.declared.back_value.BackValue.TheVariants.{Call, Settle}
use Rattle.log_values.specs.declared.fact.Fact.{Fact}
use Rattle.frames.specs.declared.message.Msg.{Msg}
use Rattle.frames.specs.declared.message.Msg.TheVariants as msgs
use Rattle.tier_model.specs.declared.turn.Idle.TheVariants as why
use Rattle.round_model.specs.Lists.{is_some, put_at, each}
use Rattle.round_model.specs.Numbered.{find}
use Rattle.round_model.specs.Service.{Backend}
use Rattle.round_model.specs.Shims.{new_shim, copies_at, copy_of, notes, ready, rises_to, told_floor, due_floor, highest}
use Rattle.tier_model.specs.Moves.{is_node_of, Packet, Move, idles, drops, says, becomes, log_packets, asks, log_facts}
use Rattle.frames.specs.Headers.{end_index}
use Rattle.tier_model.specs.Back.{Back, answer_to, after_value, in_log}

-- CALLS AND FLOORS

abbrev pub copied : {B : Type 0} → Back B → ℕ → ℕ → List ℕ → Back B
copied σ s n text = record σ { shim = notes σ.shim s n text }

-- a copy of a call that has no code yet: each sender's first one counts
abbrev pub notes_copy : {B : Type 0} → Back B → ℕ → ℕ → List ℕ → Move (Back B)
notes_copy σ s n text = if is_some (copy_of (copies_at σ.shim n) s) then idles σ why.Nothing else becomes (copied σ s n text)

abbrev pub call_as : {B : Type 0} → Tier → ℕ → Back B → ℕ → ℕ → List ℕ → Option ℕ → Move (Back B)
call_as t x σ s n text None = notes_copy σ s n text
call_as t x σ s n text (Some code) = says σ (answer_to t x n code s ∷ [])

-- a call below the floor is passed over, and one whose code is kept is answered
abbrev pub on_call : {B : Type 0} → Tier → ℕ → Back B → ℕ → ℕ → List ℕ → Move (Back B)
on_call t x σ s n text = if nat_lt n σ.shim.floor then idles σ why.Nothing else call_as t x σ s n text (find σ.shim.kept n)

-- a sender's floor only rises
abbrev pub on_settle : {B : Type 0} → Back B → ℕ → ℕ → Move (Back B)
on_settle σ s g = if rises_to σ.shim s g then becomes (record σ { shim = told_floor σ.shim s g }) else idles σ why.Nothing

-- FRAMES

-- a kind that it doesn't take, or not from there, is refused by rule 7
abbrev pub on_frame : {B : Type 0} → ℕ → Backend B → Tier → ℕ → Back B → End → Msg → Move (Back B)
on_frame u b t x σ from (msgs.Log p) = if is_node_of u t from then in_log u b t x σ (on_msg u σ.log (end_index from) p) else drops σ 7
on_frame u b t x σ from (msgs.Call n text) = if is_node_of u tiers.Mid from then on_call t x σ (end_index from) n text else drops σ 7
on_frame u b t x σ from (msgs.Settle g) = if is_node_of u tiers.Mid from then on_settle σ (end_index from) g else drops σ 7
on_frame u b t x σ from (msgs.Request seq body) = drops σ 7
on_frame u b t x σ from (msgs.Reply who body) = drops σ 7
on_frame u b t x σ from (msgs.Token r token order) = drops σ 7
on_frame u b t x σ from (msgs.Answer n code) = drops σ 7
on_frame u b t x σ from (msgs.Have v n code) = drops σ 7

-- LEADING AND OFFERING

abbrev pub leads : {B : Type 0} → ℕ → Backend B → Tier → ℕ → Back B → Move (Back B)
leads u b t x σ = in_log u b t x σ (lead u x σ.log)

abbrev pub settle_value : Option ℕ → Option AnyValue
settle_value None = None
settle_value (Some g) = Some (InBack (Settle g))

abbrev pub own_by : Option (ℕ × List ℕ) → Option ℕ → Option AnyValue
own_by None floor = settle_value floor
own_by (Some call) floor = Some (InBack (Call call.0 call.1))

-- a call of which u+1 equal copies came, the least such number first; or else the (u+1)-th largest floor, where it is higher
abbrev pub own_value : {B : Type 0} → Back B → Option AnyValue
own_value σ = own_by (ready σ.shim) (due_floor σ.shim)

abbrev pub offers_as : {B : Type 0} → ℕ → Backend B → Tier → ℕ → Back B → Offering → Move (Back B)
offers_as u b t x σ NotLeader = idles σ why.NotLeader
offers_as u b t x σ (NoPromises have) = idles σ (why.NoPromises have)
offers_as u b t x σ (InFlight p) = idles σ (why.InFlight p)
offers_as u b t x σ LogFull = idles σ why.LogFull
offers_as u b t x σ Taken = in_log u b t x σ (offer u x σ.log (own_value σ))
offers_as u b t x σ (Free p) = if is_some (own_value σ) then in_log u b t x σ (offer u x σ.log (own_value σ)) else idles σ why.Nothing

abbrev pub offers : {B : Type 0} → ℕ → Backend B → Tier → ℕ → Back B → Move (Back B)
offers u b t x σ = offers_as u b t x σ (wants u σ.log)

-- RETRY AND RESTART

abbrev pub answers_again : ℕ → Tier → ℕ → List (ℕ × ℕ) → List Packet
answers_again u t x [] = []
answers_again u t x (e ∷ es) = each (2 * u + 1) nobody (answer_to t x e.0 e.1) ++ answers_again u t x es

abbrev pub retry : {B : Type 0} → ℕ → Tier → ℕ → Back B → Move (Back B)
retry u t x σ = says σ (log_packets t x (asks u x (open_at σ.log)) ++ answers_again u t x (highest σ.shim))

abbrev pub after_values : {B : Type 0} → Backend B → Back B → List AnyValue → Back B
after_values b σ [] = σ
after_values b σ (v ∷ vs) = after_values b (after_value b σ v) vs

-- the log that the facts leave, before its values are taken
abbrev pub bare : {B : Type 0} → ℕ → Backend B → List Fact → Back B
bare u b facts = record { log = recover u (log_facts facts); state = b.opening; shim = new_shim u }

-- the learned values are taken by a fresh backend
abbrev pub recovered : {B : Type 0} → ℕ → Backend B → List Fact → Back B
recovered u b facts = after_values b (bare u b facts) (recover u (log_facts facts)).learned
