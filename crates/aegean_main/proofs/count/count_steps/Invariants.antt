use Rattle.std.proofs.Common.{◌≡◌, ◌+◌, ◌≤◌, length}
use Rattle.server_model.specs.Single.{judge}
use Rattle.server_model.specs.Rests.{lines_left, size_left}
use Rattle.aegean_main.specs.Counting.{steps_in, counted}
use Rattle.aegean_main.proofs.count.count_steps.Given as goal

abbrev pub invariant-lines : goal.invariant-lines
invariant-lines l =
    (steps_in (judge l.first (lines_left l.fn.rest)) ≡ counted l.count (steps_in (judge l.line (lines_left l.rest))))
    × (l.line + length (lines_left l.rest) ≡ l.first + length (lines_left l.fn.rest)) × (l.count + l.first ≤ l.line)

abbrev pub decreases-lines : goal.decreases-lines
decreases-lines l = size_left l.rest
