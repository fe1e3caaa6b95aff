use Rattle.std.proofs.Common.{ap, sym, ◌∙◌}
use Rattle.applied_rounds.specs.States.{programs_of}
use Rattle.log_model.specs.Rows.{wants}
use Rattle.mid_rounds.specs.Deciding.{mid_in}
use Rattle.mid_node.proofs.Offered.{goes}
use Rattle.mid_node.proofs.offering.offer_idle.Goals as goal

pub returns : goal.returns
returns g c = goes c.args.member.faults (programs_of (g.S.Service.table c.args.svc.now) (g.S.Service.beginning c.args.svc.now))
    c.args.member.me.index (mid_in c.args.member c.args.up.now) c.wants-wants.result c.in_ok-own.own
    (c.wants-wants.ensures ∙ ap (λ u. wants u c.args.up.now.log.state) c.requires.range.log.faults) (sym c.offer_cause.ensures ∙ c.in_default.is)
    c.in_ok-own.ensures (sym c.lacks_own-lacks.ensures ∙ c.if-lacks.false)
