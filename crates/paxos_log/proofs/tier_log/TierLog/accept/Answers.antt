use Rattle.std.proofs.Common.{◌≡◌, ap, length, arith}
use Rattle.paxos_log.proofs.Rows.{accepted_state, kept_led}
use Rattle.paxos_log.proofs.tier_log.TierLog.accept.Goals as goal

pub invariant_of-self : goal.invariant_of-self
invariant_of-self g c =
    let at : c.args.p ≡ length c.self.inside.learner.learned = rw (← c.self.view_is) at c.requires in
    rw (c.vote.ensures, c.keep_of_ballot.ensures) (
      c.self.invariant.0,
      kept_led c.self.inside.acceptor c.self.inside.learner c.self.inside.leader c.args.b c.args.p c.in_ok-value.value
          c.self.invariant.1,
      omega arith,
    )

pub returns-clause-after : goal.returns-clause-after
returns-clause-after g c =
    let at : c.args.p ≡ length c.self.inside.learner.learned = rw (← c.self.view_is) at c.requires in
    rw (← c.self.view_is) (ap (λ s. record { faults = c.self.inside.learner.faults; me = c.self.inside.me; state = s })
    (accepted_state c.self.inside.learner.faults c.self.inside.acceptor c.vote.new.self c.self.inside.learner
    c.self.inside.leader c.keep_of_ballot.new.leader c.args.b c.args.p c.args.v.now c.in_ok-value.value
    c.vote.ensures c.in_ok-value.ensures c.keep_of_ballot.ensures at))
