use Rattle.std.proofs.Common.{◌≡◌, ◌+◌, ◌≤◌, length}
use Rattle.server_model.specs.Single.{lines_of}
use Rattle.server_model.specs.Rests.{lines_left, size_left}
use Rattle.aegean_main.proofs.lines.has_lines_within.Given as goal

abbrev pub invariant-lines : goal.invariant-lines
invariant-lines l = (l.count + length (lines_left l.rest) ≡ length (lines_of l.input)) × (l.count ≤ l.most)

abbrev pub decreases-lines : goal.decreases-lines
decreases-lines l = size_left l.rest
