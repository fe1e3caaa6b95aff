use Rattle.std.proofs.Common.{◌≡◌, ℕ, ◌<◌, ◌≤◌, ◌==◌, get_or, cond}
use Rattle.exec_core.proofs.locks.release.Given as goal

abbrev pub invariant-loop-holder : goal.invariant-loop-holder
invariant-loop-holder l = record {
  below : (k : ℕ) → k < l.holder-index → get_or l.owner k 0 ≡ cond (get_or l.fn.owner k 0 == l.me) 0 (get_or l.fn.owner k 0);
  above : (k : ℕ) → l.holder-index ≤ k → get_or l.owner k 0 ≡ get_or l.fn.owner k 0;
}
