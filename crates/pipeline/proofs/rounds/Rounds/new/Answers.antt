use Rattle.pipeline.proofs.Moves.{first_in_range}
use Rattle.pipeline.proofs.rounds.Rounds.new.Goals as goal

pub invariant_of-result : goal.invariant_of-result
invariant_of-result c =
    first_in_range c.in_ok-empty_lists.field-0.items c.first.result c.args.depth
    c.in_ok-empty_lists.ensures.empty c.first.ensures.ones c.requires.deep
