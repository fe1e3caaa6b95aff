use Rattle.std.proofs.Common.{ℕ, ◌≡◌, ◌++◌, map, drop}
use Rattle.round_model.specs.Lists.{OfTiers}
use Rattle.round_model.specs.Tables.{parks}
use Rattle.pipeline.specs.Jobs.{want_of}
use Rattle.pipeline.specs.States.{call_of}
use Rattle.applied_rounds.specs.Told.{tolds}
use Rattle.applied_rounds.proofs.told.tell_all.Given as goal

abbrev pub invariant-segments : goal.invariant-segments
invariant-segments l = (first : OfTiers ℕ) → l.fn.calls.items ≡ map call_of (parks first (map want_of l.segs) l.ends) → (next : OfTiers ℕ)
    × (l.calls.items ≡ map call_of (parks next (map want_of (drop l.i l.segs)) (drop l.i l.ends)))
    × (l.told.items ++ tolds next (map want_of (drop l.i l.segs)) (drop l.i l.ends) ≡ tolds first (map want_of l.segs) l.ends)
