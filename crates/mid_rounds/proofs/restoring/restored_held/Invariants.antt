use Rattle.std.proofs.Common.{◌≡◌, [], take}
use Rattle.log_model.specs.Recover.{onto}
use Rattle.tier_model.specs.Moves.{held_in}
use Rattle.mid_rounds.proofs.restoring.restored_held.Given as goal

abbrev pub invariant-loop-fact : goal.invariant-loop-fact
invariant-loop-fact l = l.held ≡ held_in l.fn.member.faults l.fn.member.me.index (onto (take l.fact-index l.facts) [])
