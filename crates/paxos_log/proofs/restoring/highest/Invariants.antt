use Rattle.std.proofs.Common.{◌≡◌, take}
use Rattle.log_model.specs.Recover.{promised_in}
use Rattle.paxos_log.specs.TierLog.{newest_first}
use Rattle.paxos_log.proofs.restoring.highest.Given as goal

abbrev pub invariant-loop-fact : goal.invariant-loop-fact
invariant-loop-fact g l = l.promised ≡ promised_in (newest_first (take l.fact-index l.facts))
