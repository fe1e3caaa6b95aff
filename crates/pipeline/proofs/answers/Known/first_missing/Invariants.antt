use Rattle.std.proofs.Common.{◌≡◌, map, drop}
use Rattle.round_model.specs.Tables.{first_missing, resumed}
use Rattle.pipeline.specs.Answers.{codes_of}
use Rattle.pipeline.proofs.answers.Known.first_missing.Given as goal

abbrev pub invariant-loop-parked : goal.invariant-loop-parked
invariant-loop-parked l =
    first_missing (codes_of l.self l.held) (map resumed (drop l.parked-index l.waiting)) ≡ first_missing (codes_of l.self l.held) (map resumed l.waiting)
