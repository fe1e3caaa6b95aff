use Rattle.std.proofs.Common.{arith, length, sym, ap, ◌∙◌}
use Rattle.applied_rounds.specs.States.{programs_of}
use Rattle.mid_rounds.specs.Mids.{mid_with}
use Rattle.mid_rounds.specs.Settlings.{told_by}
use Rattle.mid_rounds.proofs.CaughtUp.{caught}
use Rattle.mid_rounds.proofs.restoring.catch_up.Goals as goal

pub returns-in-Waits-clause-state : goal.returns-in-Waits-clause-state
returns-in-Waits-clause-state g c =
    caught (programs_of (g.S.Service.table c.args.svc.now) (g.S.Service.beginning c.args.svc.now)) (length c.args.log.now.state.learned) c.loop-at.at
    (mid_with c.args.member.me.index c.args.log.now.state c.loop-at.keeping) _ _
    (omega (arith, c.loop-at-test.true, c.first_open-at-end.ensures.position)) (sym (ap told_by c.in-Waits.is) ∙ c.in_ok-told.ensures.told)
    c.in_ok-told.ensures.state c.loop-at.invariant.1
