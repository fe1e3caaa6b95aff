use Rattle.std.proofs.Common.{◌≡◌, ◌++◌, map, take}
use Rattle.round_model.specs.Tables.{Codes, started}
use Rattle.pipeline.specs.Jobs.{seg_by}
use Rattle.pipeline.proofs.segments.start_all.Given as goal

abbrev pub invariant-loop-entry : goal.invariant-loop-entry
invariant-loop-entry l = (A : Codes) → l.segs ≡ l.initial.segs ++ map (seg_by A) (map started (take l.entry-index l.fresh))
