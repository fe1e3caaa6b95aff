use Rattle.std.proofs.Common.{◌≡◌, ◌+◌, ◌*◌, None, length, replicate, take, drop}
use Rattle.log_model.specs.Recover.{learned_in}
use Rattle.paxos_log.specs.TierLog.{newest_first, AreInOrder}
use Rattle.paxos_log.proofs.restoring.restored_learner.Given as goal

abbrev pub invariant-loop-fact : goal.invariant-loop-fact
invariant-loop-fact g l = (l.learner.learned ≡ learned_in (newest_first (take l.fact-index l.facts)))
    × (l.learner.faults ≡ l.u) × (l.learner.seen ≡ replicate (2 * l.u + 1) None)
    × AreInOrder (length l.learner.learned) (drop l.fact-index l.facts)
