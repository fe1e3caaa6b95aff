use Rattle.std.proofs.Common.{◌≡◌, ◌+◌, ◌≤◌, length}
use Rattle.server_model.specs.Single.{lines_of}
use Rattle.server_model.specs.Rests.{lines_left, size_left}
use Rattle.aegean_main.proofs.RunLaws.{Stands}
use Rattle.aegean_main.proofs.run.run_lines.Given as goal

abbrev pub invariant-lines : goal.invariant-lines
invariant-lines l =
    Stands l.input (lines_left l.rest) l.number l.count l.server l.text.items
    × (l.number + length (lines_left l.rest) ≡ 1 + length (lines_of l.input)) × (l.count + 1 ≤ l.number)

abbrev pub decreases-lines : goal.decreases-lines
decreases-lines l = size_left l.rest
