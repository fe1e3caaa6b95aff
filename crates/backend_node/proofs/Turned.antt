-- The turns of a backend node's log.
use Rattle.std.proofs.Common.{◌≡◌, ℕ, ◌+◌, ◌*◌, ◌<◌, true, sym, subst, arith, Option}
use Rattle.std.specs.Prelude.{nat_lt}
use Rattle.std.proofs.lemmas.Bool.{and_parts}
use Rattle.aeg_base.specs.declared.names.End.{End}
use Rattle.aeg_base.specs.declared.names.End.TheVariants.{Node, Client}
use Rattle.aeg_base.specs.declared.names.Tier.{Tier}
use Rattle.server_model.specs.Server.{same_tier}
use Rattle.server_model.proofs.Tiers.{tier_eq}
use Rattle.log_model.specs.declared.message.PaxMsg.{PaxMsg}
use Rattle.log_model.specs.Log.{open_at}
use Rattle.log_model.specs.Ranges.{IsOwnIn}
use Rattle.log_model.specs.Rows.{on_msg, lead, offer}
use Rattle.log_values.specs.declared.any_value.AnyValue.{AnyValue}
use Rattle.frames.specs.declared.message.Msg.TheVariants.{Log}
use Rattle.frames.specs.Frames.{FitsFrame}
use Rattle.frames.specs.LogMessages.{IsCarried, FitsLog}
use Rattle.paxos_log.specs.TierLog.{NodeLog}
use Rattle.round_model.specs.Shims.{ShimState, ready, due_floor}
use Rattle.server_shim.proofs.Ranged.{ready_in, settled_in}
use Rattle.tier_model.specs.Moves.{is_node_of}
use Rattle.tier_model.specs.BackRows.{own_value}
use Rattle.node_log.specs.declared.working.Working.{Working}
use Rattle.node_log.specs.LogNodes.{IsLogTurn, IsOwnLog}
use Rattle.node_log.proofs.Turns.{message_turn, lead_turn, offer_turn}
use Rattle.node_log.specs.declared.member.Member.{Member}
use Rattle.backend_node.specs.declared.serving.Serving.{Serving}
use Rattle.backend_node.specs.Deciding.{IsMember, IsInRange, back_in}
use Rattle.tier_model.proofs.Carried.{own_carried}

-- a message of the log from a node of the tier
pub log_fits : (u : ℕ) (t : Tier) (from : End) (p : PaxMsg AnyValue) → is_node_of u t from ≡ true → FitsFrame from (Log p) → FitsLog t p
log_fits u t (Client c) p e f = absurd cc
log_fits u t (Node n) p e f = subst (λ z. FitsLog z p) (tier_eq n.tier t (and_parts (same_tier n.tier t) (nat_lt n.index (2 * u + 1)) e).0) f.message

pub received : (m : Member) (log : NodeLog AnyValue) (s : ℕ) (p : PaxMsg AnyValue) → IsOwnLog m.faults m.me.tier m.me.index log → s < 2 * m.faults + 1
    → FitsLog m.me.tier p → IsLogTurn m.faults m.me.tier (on_msg log.faults log.state s p)
received m log s p own below fits = subst (λ (z : ℕ). IsLogTurn m.faults m.me.tier (on_msg z log.state s p)) (sym own.faults)
    (message_turn m.faults m.me.tier s log.state p below own.range fits)

pub leading : (m : Member) (log : NodeLog AnyValue) → IsMember m → IsOwnLog m.faults m.me.tier m.me.index log
    → IsLogTurn m.faults m.me.tier (lead log.faults log.me log.state)
leading m log member own =
    subst (λ (z : ℕ). IsLogTurn m.faults m.me.tier (lead z log.me log.state)) (sym own.faults)
    (subst (λ (z : ℕ). IsLogTurn m.faults m.me.tier (lead m.faults z log.state)) (sym own.me)
    (lead_turn m.faults m.me.tier m.me.index log.state (omega (arith, member.few, member.node)) own.range))

-- OFFERS

pub offering : {B : Type 0} (m : Member) (w : Working (Serving B)) (own : Option AnyValue) → IsMember m → IsInRange m w → own ≡ own_value (back_in w)
    → IsLogTurn m.faults m.me.tier (offer w.log.faults w.log.me w.log.state own)
offering m w own member range e =
    let shim : ShimState = w.rest.shim in
    let stands = own_carried m.me.tier (open_at w.log.state) (ready shim) (due_floor shim) member.tier (ready_in m.faults shim range.shim)
    (settled_in m.faults shim range.shim) in
    subst (λ (z : ℕ). IsLogTurn m.faults m.me.tier (offer z w.log.me w.log.state own)) (sym range.log.faults)
    (subst (λ (z : ℕ). IsLogTurn m.faults m.me.tier (offer m.faults z w.log.state own)) (sym range.log.me)
    (offer_turn m.faults m.me.tier m.me.index w.log.state own range.log.range
    (subst (IsOwnIn (IsCarried m.me.tier) (open_at w.log.state)) (sym e) stands)))
