use Rattle.std.proofs.Common.{◌∙◌}
use Rattle.round_model.specs.Verdicts.{how_many}
use Rattle.mid_node.proofs.OwnValues.{as_found, none_in}
use Rattle.mid_node.proofs.own_values.tokens_in.Goals as goal

pub returns-in-None : goal.returns-in-None
returns-in-None c = none_in c.args.member.faults c.args.up.now.rest.tallies c.args.round c.from.result c.from.ensures c.in-None.ensures.value

pub returns-in-Some : goal.returns-in-Some
returns-in-Some c =
    c.have.ensures
    ∙ as_found c.args.member.faults c.args.up.now.rest.tallies c.args.round c.from.result how_many c.in-Some.tally.now
    c.requires.range.1.kept.tallies c.from.ensures c.in-Some.ensures.value
