use Rattle.std.proofs.Common.{◌≡◌, ◌++◌, take, drop}
use Rattle.world.specs.Tallies.{counted}
use Rattle.world.proofs.observer.count.Given as goal

-- those before are of other ballots or positions
abbrev pub invariant-loop-i : goal.invariant-loop-i
invariant-loop-i l = record {
  same : l.tallies.items ≡ l.initial.tallies.items;
  others : take l.i l.tallies.items ++ counted (drop l.i l.tallies.items) l.pos l.ballot l.from ≡ counted l.tallies.items l.pos l.ballot l.from;
}
