use Rattle.std.proofs.Common.{◌≡◌, ◌+◌, ◌≤◌, length}
use Rattle.server_model.specs.Rests.{lines_left, size_left}
use Rattle.run_model.specs.Script.{script_of, script_from}
use Rattle.net_script.proofs.parsing.first_line.Given as goal

abbrev pub invariant-lines : goal.invariant-lines
invariant-lines l = (script_of l.input ≡ script_from l.number (lines_left l.rest)) × (1 ≤ l.number) × (l.number + size_left l.rest ≤ length l.input + 2)

abbrev pub decreases-lines : goal.decreases-lines
decreases-lines l = size_left l.rest
