use Rattle.std.proofs.Common.{◌≡◌, ◌≤◌, ◌+◌, ◌++◌, map, drop}
use Rattle.aeg_base.specs.declared.names.Tier.{Tier}
use Rattle.round_model.specs.Lists.{of_tier}
use Rattle.round_model.specs.Tables.{next_after, parks}
use Rattle.pipeline.specs.Jobs.{want_of}
use Rattle.pipeline.proofs.parking.park_all.Given as goal

abbrev pub invariant-segments : goal.invariant-segments
invariant-segments l =
    (l.parked ++ parks l.numbers (map want_of (drop l.i l.segs)) (drop l.i l.ends) ≡ parks l.initial.numbers (map want_of l.segs) l.ends)
    × (next_after l.numbers (drop l.i l.ends) ≡ next_after l.initial.numbers l.ends)
    × ((t : Tier) → of_tier l.numbers t ≤ of_tier l.initial.numbers t + l.i)
