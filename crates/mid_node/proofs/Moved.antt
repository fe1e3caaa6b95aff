-- What a middle node decided and settled is its row's move.
use Rattle.std.proofs.Common.{◌≡◌, ℕ, true, false, List, [], ◌++◌, length, take, refl, sym, ap, ◌∙◌, subst, append-nil}
use Rattle.std.proofs.Common.{Option, Some, None, Result, Ok, Err}
use Rattle.std.specs.Prelude.{IfOk, IfSome, OnOk, OnErr, is_some}
use Rattle.aeg_base.specs.declared.memory.Memory.{Memory}
use Rattle.aeg_base.specs.declared.names.End.{End}
use Rattle.aeg_disk.specs.Disk.{DiskState}
use Rattle.log_model.specs.Recover.{onto}
use Rattle.log_values.specs.declared.any_value.AnyValue.{AnyValue}
use Rattle.log_values.specs.declared.fact.Fact.{Fact}
use Rattle.paxos_log.specs.TierLog.{NodeLog}
use Rattle.round_model.specs.Service.{Programs}
use Rattle.tier_model.specs.declared.turn.Idle.{Idle}
use Rattle.tier_model.specs.declared.turn.Turn.{Turn as Answer}
use Rattle.tier_model.specs.declared.turn.Fault.{Fault}
use Rattle.tier_model.specs.Moves.{Move}
use Rattle.tier_model.specs.Mid.{Mid}
use Rattle.tier_model.specs.MidRows.{recovered}
use Rattle.node_log.specs.declared.decided.Decided.{Decided}
use Rattle.node_log.specs.declared.member.Member.{Member}
use Rattle.node_log.specs.declared.working.Working.{Working}
use Rattle.node_log.specs.Deciding.{idle_in}
use Rattle.node_log.specs.LogNodes.{Standing, WasAtWork, standing_in}
use Rattle.node_log.specs.Packets.{all_sealed}
use Rattle.node_log.specs.Quiet.{IsQuietFrom, is_quiet}
use Rattle.node_log.specs.Settling.{Records}
use Rattle.node_log.specs.Views.{View, CameUp, Made, Moves, Tells, is_up, seen_as, went_down}
use Rattle.node_log.proofs.Moved.{moves, tells}
use Rattle.node_log.proofs.Restarted.{came_up}
use Rattle.mid_rounds.specs.declared.keeping.Keeping.{Keeping}
use Rattle.mid_rounds.specs.Deciding.{DecidesMove, mid_in}
use Rattle.mid_rounds.specs.Mids.{mid_of, mid_with}
use Rattle.mid_node.specs.Nodes.{Seen}

-- a node with the pipeline's depth and its service, as contracts see it
abbrev pub seen_with : {S : Type 0} → View (Standing Keeping) → ℕ → S → Seen S
seen_with now depth service = record { node = seen_as (mid_of now.me) now; depth = depth; service = service }

-- it is this node, with the index that is seen
pub record IsSelf (m : Member) (self : View Mid) : Type 0 where
  pub faults : m.faults ≡ self.faults
  pub index : m.me.index ≡ self.me

module _ {S : Type 0} (progs : S → Programs) (m : Member) (now : View (Standing Keeping)) (depth : ℕ) (service : S) (self : Seen S) where
  -- the node's number in its tier
  own_index : IsSelf m self.node → seen_with now depth service ≡ self → m.me.index ≡ now.me
  own_index k seen = k.index ∙ sym (ap (λ (z : Seen S). z.node.me) seen)

  module _ (down new : View (Standing Keeping)) (had held next : Working Keeping) (a b : DiskState) (before between after : List (End × List ℕ))
      (decided : Result Decided Memory) (result : Result Answer Fault) (row : ℕ → Programs → ℕ → Mid → Move Mid) where
    -- what taking what it has, and settling what was decided, told
    pub record Settled : Type 0 where
      pub taken : WasAtWork now had
      pub left : down ≡ went_down now
      pub held_is : held ≡ had
      pub node : OnOk result (new ≡ record down { up = Some (standing_in next); place = new.place })
      pub packets : OnOk result (after ≡ between)
      pub is_down : OnErr result (new ≡ down)
      pub taken_back : OnErr result (after ≡ take (length before) between)
      pub recorded : Records a b down.place new.place decided result

    -- it is the same node after it
    same_me : Settled → now.me ≡ new.me
    same_me s = go result s.node s.is_down
      where
        left : now.me ≡ down.me
        left = sym (ap (λ (z : View (Standing Keeping)). z.me) s.left)

        go : (r : Result Answer Fault) → OnOk r (new ≡ record down { up = Some (standing_in next); place = new.place }) → OnErr r (new ≡ down)
            → now.me ≡ new.me
        go (Ok answer) e d = left ∙ sym (ap (λ (z : View (Standing Keeping)). z.me) e)
        go (Err fault) e d = left ∙ sym (ap (λ (z : View (Standing Keeping)). z.me) d)

    by_member : DecidesMove (progs service) m (row m.faults (progs service) m.me.index (mid_in m held)) held next before between decided → Settled
        → Moves (seen_as (mid_of m.me.index) now) (seen_as (mid_of m.me.index) new) a b before after (row m.faults (progs service) m.me.index) result
    by_member d s = moves (mid_of m.me.index) (row m.faults (progs service) m.me.index) now down new held next before after
        (subst (WasAtWork now) (sym s.held_is) s.taken) s.left a b
        between decided result (record { state = d.state; facts = d.facts; answer = d.answer; packets = d.packets; kept = d.kept })
        s.node s.packets s.is_down s.taken_back s.recorded

    pub moved : IsSelf m self.node → seen_with now depth service ≡ self
        → DecidesMove (progs service) m (row m.faults (progs service) m.me.index (mid_in m held)) held next before between decided
        → Settled → Moves self.node (seen_as (mid_of new.me) new) a b before after (row self.node.faults (progs self.service) self.node.me) result
    moved k seen d s =
        let x : ℕ = m.me.index in
        let is : x ≡ now.me = own_index k seen in
        subst (λ (z : ℕ). Moves self.node (seen_as (mid_of new.me) new) a b before after (row self.node.faults (progs self.service) z) result) k.index
        (subst (λ (z : S). Moves self.node (seen_as (mid_of new.me) new) a b before after (row self.node.faults (progs z) x) result)
        (ap (λ (z : Seen S). z.service) seen)
        (subst (λ (z : ℕ). Moves self.node (seen_as (mid_of new.me) new) a b before after (row z (progs service) x) result) k.faults
        (subst (λ (z : Seen S). Moves z.node (seen_as (mid_of new.me) new) a b before after (row m.faults (progs service) x) result) seen
        (subst (λ (z : ℕ). Moves (seen_as (mid_of now.me) now) (seen_as (mid_of z) new) a b before after (row m.faults (progs service) x) result)
        (is ∙ same_me s)
        (subst (λ (z : ℕ). Moves (seen_as (mid_of z) now) (seen_as (mid_of x) new) a b before after (row m.faults (progs service) x) result) is
        (by_member d s))))))

  -- what was decided without facts, and put back, is the row's move that only tells
  pub told : (down new : View (Standing Keeping)) (had held next : Working Keeping) (before after : List (End × List ℕ)) (d : Decided)
      (row : ℕ → Programs → ℕ → Mid → Move Mid) → IsSelf m self.node → seen_with now depth service ≡ self
      → DecidesMove (progs service) m (row m.faults (progs service) m.me.index (mid_in m held)) held next before after (Ok d)
      → WasAtWork now had → down ≡ went_down now → held ≡ had → new ≡ record down { up = Some (standing_in next) }
      → Tells self.node (seen_as (mid_of new.me) new) before after (row self.node.faults (progs self.service) self.node.me) (Ok d.answer)
  told down new had held next before after d row k seen decides was left held_is node =
      let x : ℕ = m.me.index in
      let here : x ≡ now.me = own_index k seen in
      let same : new.me ≡ now.me = ap (λ (z : View (Standing Keeping)). z.me) node ∙ ap (λ (z : View (Standing Keeping)). z.me) left in
      let by_member : Tells (seen_as (mid_of x) now) (seen_as (mid_of x) new) before after (row m.faults (progs service) x) (Ok d.answer) =
      tells (mid_of x) (row m.faults (progs service) x) now down new held next before after (subst (WasAtWork now) (sym held_is) was) left (Ok d.answer)
      decides.state decides.answer decides.packets node tt tt (λ fault e. absurd cc) in
      subst (λ (z : ℕ). Tells self.node (seen_as (mid_of new.me) new) before after (row self.node.faults (progs self.service) z) (Ok d.answer)) k.index
      (subst (λ (z : S). Tells self.node (seen_as (mid_of new.me) new) before after (row self.node.faults (progs z) x) (Ok d.answer))
      (ap (λ (z : Seen S). z.service) seen)
      (subst (λ (z : ℕ). Tells self.node (seen_as (mid_of new.me) new) before after (row z (progs service) x) (Ok d.answer)) k.faults
      (subst (λ (z : Seen S). Tells z.node (seen_as (mid_of new.me) new) before after (row m.faults (progs service) x) (Ok d.answer)) seen
      (subst (λ (z : ℕ). Tells (seen_as (mid_of now.me) now) (seen_as (mid_of z) new) before after (row m.faults (progs service) x) (Ok d.answer))
      (here ∙ sym same)
      (subst (λ (z : ℕ). Tells (seen_as (mid_of z) now) (seen_as (mid_of x) new) before after (row m.faults (progs service) x) (Ok d.answer)) here
      by_member)))))

  -- IDLE

  -- what a row of the node's own state answers
  idle_by : (held : Working Keeping) (row : ℕ → Programs → ℕ → Mid → Move Mid) (cause : Option Idle) → IsSelf m self.node
      → seen_with now depth service ≡ self → WasAtWork now held → cause ≡ idle_in (row m.faults (progs service) m.me.index (mid_in m held)).answer
      → IfSome self.node.up (λ σ. cause ≡ idle_in (row self.node.faults (progs self.service) self.node.me σ).answer)
  idle_by held row cause k seen was e =
      let x : ℕ = m.me.index in
      let had : self.node.up ≡ Some (mid_in m held) =
      sym (ap (λ (z : Seen S). z.node.up) seen) ∙ ap (λ (z : ℕ). (seen_as (mid_of z) now).up) (sym (own_index k seen))
      ∙ ap (λ (o : Option (Standing Keeping)). (seen_as (mid_of x) (record now { up = o })).up) was.up in
      subst (λ (o : Option Mid). IfSome o (λ σ. cause ≡ idle_in (row self.node.faults (progs self.service) self.node.me σ).answer)) (sym had)
      (subst (λ (z : ℕ). cause ≡ idle_in (row self.node.faults (progs self.service) z (mid_in m held)).answer) k.index
      (subst (λ (z : S). cause ≡ idle_in (row self.node.faults (progs z) x (mid_in m held)).answer) (ap (λ (z : Seen S). z.service) seen)
      (subst (λ (z : ℕ). cause ≡ idle_in (row z (progs service) x (mid_in m held)).answer) k.faults e)))

  pub idle_told : (held : Working Keeping) (row : ℕ → Programs → ℕ → Mid → Move Mid) (r : Result (Option Idle) Memory) → IsSelf m self.node
      → seen_with now depth service ≡ self → WasAtWork now held
      → IfOk r (λ cause. cause ≡ idle_in (row m.faults (progs service) m.me.index (mid_in m held)).answer)
      → IfOk r (λ cause. IfSome self.node.up (λ σ. cause ≡ idle_in (row self.node.faults (progs self.service) self.node.me σ).answer))
  idle_told held row (Ok cause) k seen was e = idle_by held row cause k seen was e
  idle_told held row (Err memory) k seen was e = tt

  -- RESTARTS

  -- it came up with what the facts of its journal leave
  pub came : (new : View (Standing Keeping)) (journal : ℕ) (facts : List Fact) (log : NodeLog AnyValue) (keeping : Keeping) → IsSelf m self.node
      → seen_with now depth service ≡ self
      → mid_with m.me.index log.state keeping ≡ recovered m.faults (progs service) depth m.me.index (onto facts [])
      → new ≡ record now { up = Some (record { log = log.state; rest = keeping }); place = journal }
      → CameUp self.node (seen_as (mid_of new.me) new) (recovered self.node.faults (progs self.service) self.depth self.node.me) facts
      × (new.place ≡ journal)
  came new journal facts log keeping k seen is e =
      let x : ℕ = m.me.index in
      let here : x ≡ now.me = own_index k seen in
      let same : now.me ≡ new.me = sym (ap (λ (z : View (Standing Keeping)). z.me) e) in
      let up = came_up (mid_of x) now new (recovered m.faults (progs service) depth x) facts (record { log = log.state; rest = keeping }) journal e is in (
        subst (λ (z : ℕ). CameUp self.node (seen_as (mid_of new.me) new) (recovered self.node.faults (progs self.service) self.depth z) facts) k.index
            (subst (λ (z : Seen S). CameUp self.node (seen_as (mid_of new.me) new) (recovered self.node.faults (progs z.service) z.depth x) facts) seen
            (subst (λ (z : ℕ). CameUp self.node (seen_as (mid_of new.me) new) (recovered z (progs service) depth x) facts) k.faults
            (subst (λ (z : Seen S). CameUp z.node (seen_as (mid_of new.me) new) (recovered m.faults (progs service) depth x) facts) seen
            (subst (λ (z : ℕ). CameUp (seen_as (mid_of now.me) now) (seen_as (mid_of z) new) (recovered m.faults (progs service) depth x) facts)
            (here ∙ same)
            (subst (λ (z : ℕ). CameUp (seen_as (mid_of z) now) (seen_as (mid_of x) new) (recovered m.faults (progs service) depth x) facts) here up.0))))),
        up.1,
      )

-- a call that only tells, and answers that nothing was done, left node and packets as they were
pub quiet_told : (row : Mid → Move Mid) (old new : View Mid) (before after : List (End × List ℕ)) (answer : Answer) → is_up old ≡ true
    → ((σ : Mid) → IsQuietFrom σ (row σ)) → Tells old new before after row (Ok answer) → is_quiet answer ≡ true → (new ≡ old) × (after ≡ before)
quiet_told row old new before after answer up quiet told e = go old.up refl
  where
    go : (o : Option Mid) → old.up ≡ o → (new ≡ old) × (after ≡ before)
    go None none = absurd (let down : is_up old ≡ false = ap (λ (z : Option Mid). is_some z) none in cc)
    go (Some σ) some =
        let made : Made old new before after (row σ) answer =
        subst (λ (z : Option Mid). IfSome z (λ s. Made old new before after (row s) answer)) some told.made in
        let same : is_quiet (row σ).answer ≡ true = ap is_quiet (sym made.answer_is) ∙ e in
        let from : IsQuietFrom σ (row σ) = quiet σ in (
          made.node ∙ ap (λ (z : Mid). record old { up = Some z; place = new.place }) (from.state same)
              ∙ ap (λ (z : ℕ). record old { up = Some σ; place = z }) told.same_place ∙ ap (λ (o : Option Mid). record old { up = o }) (sym some),
          made.packets ∙ ap (λ z. before ++ all_sealed z) (from.sends same) ∙ append-nil before,
        )
