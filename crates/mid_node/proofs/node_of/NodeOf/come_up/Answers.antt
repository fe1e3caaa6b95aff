use Rattle.std.proofs.Common.{◌≡◌, [], Ok, Result, ap, subst, sym}
use Rattle.applied_rounds.specs.States.{programs_of}
use Rattle.log_model.specs.Recover.{onto}
use Rattle.log_values.specs.declared.any_value.AnyValue.{AnyValue}
use Rattle.paxos_log.specs.TierLog.{NodeLog}
use Rattle.tier_model.specs.declared.turn.Fault.{Fault}
use Rattle.tier_model.specs.Mid.{Mid}
use Rattle.tier_model.specs.MidRows.{recovered}
use Rattle.tier_model.specs.Moves.{held_in}
use Rattle.node_log.specs.Restarting.{ComesUp, Journal, restored_log}
use Rattle.node_log.specs.Views.{View, seen_as}
use Rattle.mid_rounds.specs.Mids.{mid_of}
use Rattle.mid_node.proofs.Moved.{came}
use Rattle.mid_node.proofs.node_of.NodeOf.come_up.Goals as goal

pub returns-clause-up : goal.returns-clause-up
returns-clause-up g c =
    let self = c.args.self.now in
    let m = c.member-member.result in
    let facts = onto c.in_ok-journal.facts.items [] in
    let new : View Mid = seen_as (mid_of c.come_up.new.self.me) c.come_up.new.self in
    subst (λ (z : Result Journal Fault). ComesUp self.node new
    (recovered self.node.faults (programs_of (g.S.Service.table self.service) (g.S.Service.beginning self.service)) self.depth self.node.me) z (Ok tt))
    (sym c.in_ok-journal.was)
    (came (λ s. programs_of (g.S.Service.table s) (g.S.Service.beginning s)) m c.self.inside.node c.self.inside.depth c.self.inside.service self
    c.come_up.new.self c.in_ok-journal.journal c.in_ok-journal.facts.items c.in_ok-log.log c.in_ok-keeping.keeping
    (record { faults = c.member-member.ensures.faults; index = c.member-member.ensures.index }) c.self.view_is
    (c.in_ok-keeping.ensures.state facts
    (subst (λ z. c.in_ok-held.held ≡ held_in m.faults m.me.index (onto z [])) c.deref.ensures.value c.in_ok-held.ensures.held)
    (ap (λ (z : NodeLog AnyValue). z.state) {y = restored_log m.faults m.me.index c.in_ok-journal.facts.items}
    c.in_ok-log.ensures.log)) c.in_ok-come_up.ensures.up)
