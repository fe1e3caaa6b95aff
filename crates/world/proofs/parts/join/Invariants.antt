use Rattle.std.proofs.Common.{◌≡◌, ◌++◌}
use Rattle.world.specs.Watching.{hears_packets}
use Rattle.world.proofs.parts.join.Given as goal

abbrev pub invariant-loop-to : goal.invariant-loop-to
invariant-loop-to l = record {
  soup : l.soup ≡ l.fn.soup ++ l.yielded;
  watch : l.watch ≡ hears_packets l.fn.watch l.yielded;
}
