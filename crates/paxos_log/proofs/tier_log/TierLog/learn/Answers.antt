use Rattle.paxos_log.proofs.tier_log.TierLog.learn.Goals as goal

pub invariant_of-self-2 : goal.invariant_of-self-2
invariant_of-self-2 g c = rw (c.forget.ensures, c.in_ok-learn.ensures.ok) (c.self.invariant.0, c.self.invariant.1, tt)
