use Rattle.std.proofs.Common.{◌≡◌, subst}
use Rattle.std.specs.Prelude.{IfOk}
use Rattle.applied_rounds.specs.States.{programs_of}
use Rattle.mid_rounds.specs.Deciding.{mid_in}
use Rattle.mid_node.proofs.OwnValues.{batch_there, verdict_there}
use Rattle.mid_node.proofs.own_values.own_value.Goals as goal

pub returns-then-open-eq1 : goal.returns-then-open-eq1
returns-then-open-eq1 g c =
    subst (λ z. IfOk c.own_verdict.result (λ own. own ≡ z))
    (verdict_there c.args.member.faults (mid_in c.args.member c.args.up.now) c.first_open-open.result
    (programs_of (g.S.Service.table c.args.svc.now) (g.S.Service.beginning c.args.svc.now))
    c.first_open-open.ensures.position c.if-open-eq1.true) c.own_verdict.ensures

pub returns : goal.returns
returns g c =
    subst (λ z. IfOk c.own_batch.result (λ own. own ≡ z))
    (batch_there c.args.member.faults (mid_in c.args.member c.args.up.now) c.first_open-open.result
    (programs_of (g.S.Service.table c.args.svc.now) (g.S.Service.beginning c.args.svc.now))
    c.first_open-open.ensures.position c.if-open-eq1.false) c.own_batch.ensures
