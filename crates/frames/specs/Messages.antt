-- The messages: their kinds, their bodies, what has one, and what stands at the front of bytes.
use Rattle.std.specs.Prelude.{ℕ, ◌<◌, List, [], ◌∷◌, ◌++◌, None, Bool, nat_lt, nat_le, ◌||◌, ◌&&◌, ◌==◌, if◌then◌else◌}
use Rattle.std.specs.Int.{w16, w32, to_be_bytes}
use Rattle.aeg_base.specs.declared.limits.TheConstants.{ROUNDS}
use Rattle.aeg_base.specs.declared.names.Tier.{Tier}
use Rattle.svc_api.specs.Plan.{IsBackend}
use Rattle.aeg_wire.specs.Fields.{Read, byte_at, number_at, text, text_at}
use Rattle.aeg_wire.specs.Formats.{made, kept, both}
use Rattle.log_values.specs.declared.format.TheConstants.{REQUEST_KIND, REPLY_KIND, PREPARE_KIND, LEARN_KIND}
use Rattle.log_values.specs.declared.format.TheConstants.{TOKEN_KIND, CALL_KIND, ANSWER_KIND, HAVE_KIND, SETTLE_KIND}
use Rattle.log_values.specs.declared.format.TheConstants.{BEHIND_KIND}
use Rattle.log_values.specs.Fields.{tier_number, backend_at, client_at, seq_at, call_number_at, floor_at, IsClient, IsSeq, IsCallNumber, IsFloor, IsText}
use Rattle.log_values.specs.Outcomes.{commit, commit_at, IsCommit}
use Rattle.frames.specs.declared.message.Msg.{Msg}
use Rattle.frames.specs.declared.message.Msg.TheVariants as msgs
use Rattle.frames.specs.LogMessages.{log_kind, log_body, log_body_at, FitsLog}

abbrev pub kind_of : Msg → ℕ
kind_of (msgs.Log msg) = log_kind msg
kind_of (msgs.Request seq request) = REQUEST_KIND
kind_of (msgs.Reply who reply) = REPLY_KIND
kind_of (msgs.Token round token order) = TOKEN_KIND
kind_of (msgs.Call number call) = CALL_KIND
kind_of (msgs.Answer number code) = ANSWER_KIND
kind_of (msgs.Have tier number code) = HAVE_KIND
kind_of (msgs.Settle floor) = SETTLE_KIND

abbrev pub body : Msg → List ℕ
body (msgs.Log msg) = log_body msg
body (msgs.Request seq request) = to_be_bytes w32 seq ++ text request
body (msgs.Reply who reply) = who.client ∷ (to_be_bytes w32 who.seq ++ text reply)
body (msgs.Token round token order) = to_be_bytes w16 round ++ commit (token, order)
body (msgs.Call number call) = to_be_bytes w32 number ++ text call
body (msgs.Answer number code) = to_be_bytes w32 number ++ (code ∷ [])
body (msgs.Have tier number code) = tier_number tier ∷ (to_be_bytes w32 number ++ (code ∷ []))
body (msgs.Settle floor) = to_be_bytes w32 floor

-- what a message of this tier can say
abbrev pub FitsMsg : Tier → Msg → Type 0
FitsMsg tier (msgs.Log msg) = FitsLog tier msg
FitsMsg tier (msgs.Request seq request) = IsSeq seq × IsText request
FitsMsg tier (msgs.Reply who reply) = IsClient who.client × (IsSeq who.seq × IsText reply)
FitsMsg tier (msgs.Token round token order) = (round < ROUNDS) × IsCommit token order
FitsMsg tier (msgs.Call number call) = IsCallNumber number × IsText call
FitsMsg tier (msgs.Answer number code) = IsCallNumber number × (code < 256)
FitsMsg tier (msgs.Have about number code) = IsBackend about × (IsCallNumber number × (code < 256))
FitsMsg tier (msgs.Settle floor) = IsFloor floor

-- the kinds of a log's messages
abbrev pub is_of_log : ℕ → Bool
is_of_log kind = (nat_le PREPARE_KIND kind && nat_le kind LEARN_KIND) || (kind == BEHIND_KIND)

unfoldable pub round_at : List ℕ → Read ℕ
round_at bytes = kept (λ n. nat_lt n ROUNDS) (number_at w16 bytes)

unfoldable pub other_body_at : ℕ → List ℕ → Read Msg
other_body_at kind bytes =
    if kind == REQUEST_KIND then made (λ p. msgs.Request p.0 p.1) (both seq_at (λ _. text_at) bytes)
    else if kind == REPLY_KIND then made (λ p. msgs.Reply (record { client = p.0; seq = p.1.0 }) p.1.1) (both client_at (λ _. both seq_at (λ _. text_at)) bytes)
    else if kind == TOKEN_KIND then made (λ p. msgs.Token p.0 p.1.0 p.1.1) (both round_at (λ _. commit_at) bytes)
    else if kind == CALL_KIND then made (λ p. msgs.Call p.0 p.1) (both call_number_at (λ _. text_at) bytes)
    else if kind == ANSWER_KIND then made (λ p. msgs.Answer p.0 p.1) (both call_number_at (λ _. byte_at) bytes)
    else if kind == HAVE_KIND then made (λ p. msgs.Have p.0 p.1.0 p.1.1) (both backend_at (λ _. both call_number_at (λ _. byte_at)) bytes)
    else if kind == SETTLE_KIND then made (λ p. msgs.Settle p) (floor_at bytes)
    else None

-- the body of a message of this kind from this tier
unfoldable pub body_at : Tier → ℕ → List ℕ → Read Msg
body_at tier kind bytes = if is_of_log kind then made (λ m. msgs.Log m) (log_body_at tier kind bytes) else other_body_at kind bytes
