use Rattle.std.proofs.Common.{rules}
use Rattle.aeg_base.specs.Locks.{no_locks}
use Rattle.aeg_base.proofs.locks.LockSet.new.Goals as goal

pub returns : goal.returns
unfolding no_locks
returns c = search rules
