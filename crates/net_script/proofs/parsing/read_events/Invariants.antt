use Rattle.std.proofs.Common.{◌≡◌, ◌+◌, ◌≤◌, length}
use Rattle.aeg_base.specs.declared.limits.TheConstants.{INPUT_BYTES}
use Rattle.server_model.specs.Rests.{lines_left, size_left}
use Rattle.run_model.specs.Script.{events_in}
use Rattle.net_script.specs.Events.{AreProper}
use Rattle.net_script.specs.Reading.{after_events}
use Rattle.net_script.proofs.parsing.read_events.Given as goal

abbrev pub invariant-lines : goal.invariant-lines
invariant-lines l =
    (events_in l.u l.first (lines_left l.behind) ≡ after_events l.events (events_in l.u l.number (lines_left l.rest)))
    × AreProper l.u l.events × (l.number + size_left l.rest ≤ INPUT_BYTES + 2) × (l.first + length l.events ≤ l.number)

abbrev pub decreases-lines : goal.decreases-lines
decreases-lines l = size_left l.rest
