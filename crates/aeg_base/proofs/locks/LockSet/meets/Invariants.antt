use Rattle.std.proofs.Common.{◌≡◌, ℕ, ◌<◌, true}
use Rattle.aeg_base.specs.Locks.{has_lock}
use Rattle.aeg_base.proofs.locks.LockSet.meets.Given as goal

abbrev pub invariant-loop-i : goal.invariant-loop-i
invariant-loop-i l = (lock : ℕ) → lock < l.i → has_lock l.mine lock ≡ true → has_lock l.theirs lock ≡ true → ⊥
