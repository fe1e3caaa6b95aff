use Rattle.std.proofs.Common.{◌≡◌, ◌++◌, map, take}
use Rattle.round_model.specs.Tables.{resumed}
use Rattle.pipeline.specs.Jobs.{seg_by}
use Rattle.pipeline.specs.Answers.{codes_of}
use Rattle.pipeline.proofs.segments.resume_all.Given as goal

abbrev pub invariant-loop-parked : goal.invariant-loop-parked
invariant-loop-parked l = l.segs ≡ l.initial.segs ++ map (seg_by (codes_of l.known l.held)) (map resumed (take l.parked-index l.waiting))
