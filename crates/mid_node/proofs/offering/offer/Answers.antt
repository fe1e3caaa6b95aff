use Rattle.std.proofs.Common.{ap, sym, ◌∙◌}
use Rattle.applied_rounds.specs.States.{programs_of}
use Rattle.log_model.specs.Rows.{wants}
use Rattle.mid_node.proofs.Offered.{lacked}
use Rattle.mid_node.proofs.offering.offer.Goals as goal

pub returns-then-lacks_own : goal.returns-then-lacks_own
returns-then-lacks_own g c =
    lacked (programs_of (g.S.Service.table c.args.svc.now) (g.S.Service.beginning c.args.svc.now)) c.args.member c.args.up.now c.args.out.now
    c.without_facts-then-lacks_own.result c.wants-wants.result c.in_ok-own.own c.own_cause-cause.result c.requires.range
    (c.wants-wants.ensures ∙ ap (λ u. wants u c.args.up.now.log.state) c.requires.range.log.faults) c.in_ok-own.ensures
    (sym c.lacks_own.ensures ∙ c.if-lacks_own.true) c.own_cause-cause.ensures c.without_facts-then-lacks_own.ensures.facts
    c.without_facts-then-lacks_own.ensures.answer
