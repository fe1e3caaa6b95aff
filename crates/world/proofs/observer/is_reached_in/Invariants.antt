use Rattle.std.proofs.Common.{◌≡◌, drop}
use Rattle.world.specs.Tallies.{is_chosen}
use Rattle.world.proofs.observer.is_reached_in.Given as goal

-- what is left tells what all tell
abbrev pub invariant-loop-tally : goal.invariant-loop-tally
invariant-loop-tally l = is_chosen l.faults (drop l.tally-index l.tallies) l.pos ≡ is_chosen l.faults l.tallies l.pos
