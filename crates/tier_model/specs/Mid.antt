-- A middle node: its state, and how a round is applied at it.
use Rattle.std.specs.Prelude.{ℕ, suc, ◌+◌, ◌*◌, Bool, true, false, ◌&&◌, ◌==◌, nat_lt, List, [], ◌∷◌, ◌++◌, length, map, Option, Some, None, if◌then◌else◌}
use Rattle.aeg_base.specs.declared.names.Tier.{Tier}
use Rattle.aeg_base.specs.declared.names.Tier.TheVariants as tiers
use Rattle.aeg_base.specs.declared.names.End.TheVariants.{Client}
use Rattle.svc_api.specs.declared.action.Ending.{Ending}
use Rattle.svc_api.specs.declared.action.Ending.TheVariants.{Reply, Call}
use Rattle.log_model.specs.Log.{LogState, Turn, nobody}
use Rattle.log_values.specs.declared.any_value.AnyValue.{AnyValue}
use Rattle.log_values.specs.declared.entry.Entry.{Entry}
use Rattle.log_values.specs.declared.mid_value.Verdict.{Verdict}
use Rattle.log_values.specs.declared.mid_value.Verdict.TheVariants.{Commit, Serial}
use Rattle.frames.specs.declared.message.Msg.TheVariants as msgs
use Rattle.tier_model.specs.declared.turn.Idle.{Idle}
use Rattle.tier_model.specs.declared.turn.Idle.TheVariants.{Nothing, NoAnswer}
use Rattle.round_model.specs.Lists.{and_then, below, each, OfTiers, of_tier}
use Rattle.round_model.specs.Service.{Programs, Finish}
use Rattle.round_model.specs.Tables.{Tables, Number, Want, wants, Codes, job_of, first_missing, bump, settled, drop_done}
use Rattle.round_model.specs.After.{batch_at, verdict_at}
use Rattle.round_model.specs.Settling.{finish_of}
use Rattle.round_model.specs.Numbered.{without}
use Rattle.round_model.specs.Verdicts.{Claims, Vote}
use Rattle.round_model.specs.Held.{HeldState, held_code}
use Rattle.tier_model.specs.Moves.{node, Packet, Move, idles, says, log_packets, as_fact, log_answer}

-- The log; how many rounds are applied, and the tables that they came to; the pending entry of each client; the claims
-- of the rounds to come, by round; the run of the next round, where it ran; the answers that are held.
pub record Mid : Type 0 where
  pub log : LogState AnyValue
  pub applied : ℕ
  pub tables : Tables
  pub pending : List (Option Entry)
  pub tally : List (ℕ × Claims)
  pub spec : Option Vote
  pub held : HeldState

abbrev pub with_log : Mid → LogState AnyValue → Mid
with_log σ log = record σ { log = log }

-- APPLYING A ROUND

-- what the segments of the next round want, and what its verdict makes of them
pub record Ready : Type 0 where
  pub wants : List Want
  pub finish : Finish

-- the next round, where it can be applied
abbrev pub ready : Programs → Mid → Option Ready
ready m σ = and_then (batch_at σ.log.learned σ.applied) (λ es. and_then (verdict_at σ.log.learned σ.applied) (λ v.
    and_then (finish_of m (held_code σ.held) (wants m σ.tables es) σ.tables v) (λ o. Some (record { wants = wants m σ.tables es; finish = o }))))

-- the state after the round is applied
abbrev pub apply : Mid → Ready → Mid
apply σ R = record σ {
  applied = suc σ.applied;
  tables = settled σ.tables R.wants R.finish;
  pending = drop_done (settled σ.tables R.wants R.finish).last σ.pending;
  tally = without σ.tally σ.applied;
  spec = None;
}

abbrev pub reply_to : ℕ → ℕ → ℕ → List ℕ → Packet
reply_to x client seq text = record { from = node tiers.Mid x; to = Client client; message = msgs.Reply (record { client = client; seq = seq }) text }

abbrev pub call_to : ℕ → Tier → ℕ → List ℕ → ℕ → Packet
call_to x t num text y = record { from = node tiers.Mid x; to = node t y; message = msgs.Call num text }

-- the call goes to all nodes of its tier
abbrev pub calls_to : ℕ → ℕ → Tier → ℕ → List ℕ → List Packet
calls_to u x t num text = each (2 * u + 1) nobody (call_to x t num text)

-- the replies and the calls of a round, in job order
abbrev pub tells : ℕ → ℕ → OfTiers ℕ → List Want → List Ending → List Packet
tells u x next [] es = []
tells u x next (w ∷ ws) [] = []
tells u x next (w ∷ ws) (Reply text ∷ es) = reply_to x w.client w.seq text ∷ tells u x next ws es
tells u x next (w ∷ ws) (Call t stage text ∷ es) = calls_to u x t (of_tier next t) text ++ tells u x (bump next t) ws es

abbrev pub apply_state : Mid → Option Ready → Mid
apply_state σ None = σ
apply_state σ (Some R) = apply σ R

abbrev pub apply_sends : ℕ → ℕ → Mid → Option Ready → List Packet
apply_sends u x σ None = []
apply_sends u x σ (Some R) = tells u x σ.tables.next R.wants R.finish.ends

-- A TURN OF THE LOG

-- the log learns the verdict of the next round
abbrev pub is_due : Mid → LogState AnyValue → Bool
is_due σ log = nat_lt (length σ.log.learned) (length log.learned) && (length log.learned == 2 * σ.applied + 2)

abbrev pub due_round : Programs → Mid → LogState AnyValue → Option Ready
due_round m σ log = if is_due σ log then ready m (with_log σ log) else None

-- where the log learns the verdict of the next round, that round is applied if it can be, after the log's own packets
abbrev pub in_log : ℕ → Programs → ℕ → Mid → Turn AnyValue → Move Mid
in_log u m x σ t = record {
  state = apply_state (with_log σ t.state) (due_round m σ t.state);
  facts = map as_fact t.facts;
  sends = log_packets tiers.Mid x t.sends ++ apply_sends u x (with_log σ t.state) (due_round m σ t.state);
  answer = log_answer t.idle;
}

-- WHY A ROUND IS NOT APPLIED

abbrev pub missing : Option Number → Idle
missing None = Nothing
missing (Some k) = NoAnswer k.tier k.num

abbrev pub unready : Programs → Mid → Option (List Entry) → Option Verdict → Idle
unready m σ (Some es) (Some Serial) = missing (first_missing (held_code σ.held) (wants m σ.tables es))
unready m σ es v = Nothing

-- the next round is applied, or it is told why not: a Commit doesn't fit, or an answer isn't held
abbrev pub applies : ℕ → Programs → ℕ → Mid → Option Ready → Move Mid
applies u m x σ None = idles σ (unready m σ (batch_at σ.log.learned σ.applied) (verdict_at σ.log.learned σ.applied))
applies u m x σ (Some R) = says (apply σ R) (apply_sends u x σ (Some R))
