-- What a backend node decided and settled is its row's move.
use Rattle.std.proofs.Common.{◌≡◌, ℕ, List, length, take, sym, ap, ◌∙◌, subst, Some, Result, Err}
use Rattle.std.specs.Prelude.{OnOk, OnErr}
use Rattle.aeg_base.specs.declared.memory.Memory.{Memory}
use Rattle.aeg_base.specs.declared.names.End.{End}
use Rattle.aeg_base.specs.declared.names.Tier.{Tier}
use Rattle.aeg_disk.specs.Disk.{DiskState}
use Rattle.tier_model.specs.declared.turn.Turn.{Turn as Answer}
use Rattle.tier_model.specs.declared.turn.Fault.{Fault}
use Rattle.tier_model.specs.declared.turn.Fault.TheVariants as faults
use Rattle.tier_model.specs.Moves.{Move}
use Rattle.tier_model.specs.Back.{Back}
use Rattle.node_log.specs.declared.decided.Decided.{Decided}
use Rattle.node_log.specs.declared.working.Working.{Working}
use Rattle.node_log.specs.LogNodes.{Standing, WasAtWork, standing_in}
use Rattle.node_log.specs.Packets.{StillHas}
use Rattle.node_log.specs.Settling.{Records}
use Rattle.node_log.specs.Views.{View, Moves, Tells, seen_as, went_down}
use Rattle.node_log.proofs.Moved.{moves, taken_back}
use Rattle.node_log.specs.declared.member.Member.{Member}
use Rattle.backend_node.specs.declared.serving.Serving.{Serving}
use Rattle.backend_node.specs.Backends.{back_of}
use Rattle.backend_node.specs.Deciding.{DecidesMove, back_in}

-- it is this node, in the tier and with the index that are seen
pub record IsSelf {B : Type 0} (m : Member) (self : View (Back B)) : Type 0 where
  pub faults : m.faults ≡ self.faults
  pub tier : m.me.tier ≡ self.tier
  pub index : m.me.index ≡ self.me

module _ {B : Type 0} (m : Member) (now down new : View (Standing (Serving B))) (self : View (Back B)) (had held next : Working (Serving B))
    (a b : DiskState) (before between after : List (End × List ℕ)) (decided : Result Decided Memory) (result : Result Answer Fault)
    (row : ℕ → Tier → ℕ → Back B → Move (Back B)) where
  -- what taking what it has, and settling what was decided, told
  pub record Settled : Type 0 where
    pub taken : WasAtWork now had
    pub left : down ≡ went_down now
    pub held_is : held ≡ had
    pub node : OnOk result (new ≡ record down { up = Some (standing_in next); place = new.place })
    pub packets : OnOk result (after ≡ between)
    pub is_down : OnErr result (new ≡ down)
    pub taken_back : OnErr result (after ≡ take (length before) between)
    pub recorded : Records a b down.place new.place decided result

  by_member : DecidesMove m (row m.faults m.me.tier m.me.index (back_in held)) held next before between decided → Settled
      → Moves (seen_as back_of now) (seen_as back_of new) a b before after (row m.faults m.me.tier m.me.index) result
  by_member d s = moves back_of (row m.faults m.me.tier m.me.index) now down new held next before after
      (subst (WasAtWork now) (sym s.held_is) s.taken) s.left a b
      between decided result (record { state = d.state; facts = d.facts; answer = d.answer; packets = d.packets; kept = d.kept })
      s.node s.packets s.is_down s.taken_back s.recorded

  pub moved : IsSelf m self → seen_as back_of now ≡ self → DecidesMove m (row m.faults m.me.tier m.me.index (back_in held)) held next before between decided
      → Settled → Moves self (seen_as back_of new) a b before after (row self.faults self.tier self.me) result
  moved k seen d s =
      subst (λ (z : ℕ). Moves self (seen_as back_of new) a b before after (row self.faults self.tier z) result) k.index
      (subst (λ (z : Tier). Moves self (seen_as back_of new) a b before after (row self.faults z m.me.index) result) k.tier
      (subst (λ (z : ℕ). Moves self (seen_as back_of new) a b before after (row z m.me.tier m.me.index) result) k.faults
      (subst (λ (z : View (Back B)). Moves z (seen_as back_of new) a b before after (row m.faults m.me.tier m.me.index) result) seen (by_member d s))))

-- memory ran out as packets were made: they are taken back
pub told_none : {B : Type 0} (now down : View (Standing (Serving B))) (self : View (Back B)) (before between after : List (End × List ℕ))
    (row : Back B → Move (Back B)) → down ≡ went_down now → seen_as back_of now ≡ self → StillHas before between → after ≡ take (length before) between
    → Tells self (seen_as back_of down) before after row (Err faults.Memory)
told_none {B} now down self before between after row left seen kept back = record {
  made = tt;
  same_place = ap (λ (z : View (Standing (Serving B))). z.place) left ∙ ap (λ (z : View (Back B)). z.place) seen;
  down = ap (seen_as back_of) left ∙ ap (λ (z : View (Back B)). went_down z) seen;
  nothing_sent = taken_back before between after kept back;
  memory = λ fault e. cc;
}
