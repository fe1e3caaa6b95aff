use Rattle.std.proofs.Common.{◌≡◌, ◌≤◌, take, IfSome}
use Rattle.log_model.specs.Recover.{accepted_in}
use Rattle.paxos_parts.specs.Acceptor.{voted_at}
use Rattle.paxos_log.specs.TierLog.{newest_first}
use Rattle.paxos_log.proofs.restoring.last_vote.Given as goal

abbrev pub invariant-loop-fact : goal.invariant-loop-fact
invariant-loop-fact g l = (voted_at l.vote l.at ≡ accepted_in l.at (newest_first (take l.fact-index l.facts))) × IfSome l.vote (λ v. v.at ≤ l.at)
