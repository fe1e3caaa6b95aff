-- What a round tells, as packets.
use Rattle.std.specs.Prelude.{ℕ, List, [], ◌∷◌, if◌then◌else◌}
use Rattle.aeg_base.specs.declared.names.Tier.{Tier}
use Rattle.applied_rounds.specs.declared.told.Told.{Told}
use Rattle.applied_rounds.specs.declared.told.Told.TheVariants.{Reply, Call}
use Rattle.svc_api.specs.Plan.{IsBackend}
use Rattle.log_values.specs.Fields.{IsCallNumber, IsClient, IsSeq, IsText}
use Rattle.round_model.specs.Held.{HeldState, held_code}
use Rattle.round_model.specs.Lists.{is_some}
use Rattle.round_model.specs.Tables.{Parked}
use Rattle.pipeline.specs.States.{call_of}
use Rattle.tier_model.specs.Moves.{Packet}
use Rattle.tier_model.specs.Mid.{calls_to, reply_to}

-- a reply goes to its client, and a call to all nodes of its tier
abbrev pub told_to : ℕ → ℕ → Told → List Packet
told_to u x (Reply who text) = reply_to x who.client who.seq text ∷ []
told_to u x (Call tier num text) = calls_to u x tier num text

-- it has a frame
abbrev pub IsToldIn : Told → Type 0
IsToldIn (Reply who text) = IsClient who.client × (IsSeq who.seq × IsText text)
IsToldIn (Call tier num text) = IsBackend tier × (IsCallNumber num × IsText text)

-- a call that waits has a frame
abbrev pub IsCallIn : Tier × ℕ × List ℕ → Type 0
IsCallIn call = IsBackend call.0 × (IsCallNumber call.1 × IsText call.2)

-- a request that waits for such a call
abbrev pub IsWaiting : Parked → Type 0
IsWaiting p = IsCallIn (call_of p)

-- it is made again where its answer isn't held
abbrev pub call_unless_held : ℕ → ℕ → HeldState → Tier × ℕ × List ℕ → List Packet
call_unless_held u x held call = if is_some (held_code held call.0 call.1) then [] else calls_to u x call.0 call.1 call.2
