use Rattle.std.proofs.Common.{◌≡◌, ◌≤◌, ◌∙◌, sym, length}
use Rattle.log_model.specs.Rows.{reports}
use Rattle.paxos_log.proofs.Rows.{report_is}
use Rattle.paxos_log.proofs.tier_log.TierLog.promise.Goals as goal

pub returns-clause-turn : goal.returns-clause-turn
returns-clause-turn g c =
    let le : length c.self.inside.learner.learned ≤ c.args.p = rw (← c.self.view_is) at c.requires in
    let r : reports c.args.self.now.state c.args.p ≡ c.in_ok-report.report = rw (← c.self.view_is)
    (sym (c.in_ok-report.ensures
    ∙ report_is c.self.inside.acceptor.vote (length c.self.inside.learner.learned) c.args.p c.self.invariant.2 le)) in
    cc (c.turn.ensures, c.in_ok-facts.ensures, c.in_ok-sends.ensures)
