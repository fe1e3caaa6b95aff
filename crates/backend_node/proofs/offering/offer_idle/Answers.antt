use Rattle.std.proofs.Common.{ap, sym, ◌∙◌}
use Rattle.log_model.specs.Rows.{wants}
use Rattle.backend_node.specs.Backends.{backend_by}
use Rattle.backend_node.specs.Deciding.{back_in}
use Rattle.backend_node.proofs.Offered.{goes}
use Rattle.backend_node.proofs.offering.offer_idle.Goals as goal

pub returns : goal.returns
returns g c = goes c.args.member.faults (backend_by g.B.Backend.opening g.B.Backend.state_after g.B.Backend.code_of) c.args.member.me.tier
    c.args.member.me.index (back_in c.args.up.now) c.wants-wants.result c.in_ok-own.own
    (c.wants-wants.ensures ∙ ap (λ u. wants u c.args.up.now.log.state) c.requires.range.log.faults) (sym c.offer_cause.ensures ∙ c.in_default.is)
    c.in_ok-own.ensures (sym c.lacks_own-lacks.ensures ∙ c.if-lacks.false)
