use Rattle.log_values.proofs.Tokens.{no_pairs, no_ends, counts}
use Rattle.log_values.proofs.token.pass_outcome.Goals as goal

pub returns-in_default : goal.returns-in_default
returns-in_default c = no_pairs c.args.from.now c.in_default.ensures

pub returns-in_default-pass_all_ends : goal.returns-in_default-pass_all_ends
returns-in_default-pass_all_ends c = no_ends c.args.from.now c.pass_all_pairs.new.from c.in-Some.ensures c.in_default-pass_all_ends.ensures

pub returns : goal.returns
returns c = counts c.args.from.now c.pass_all_pairs.new.from c.in-Some-pass_all_ends.count c.pass_all_ends.new.from
    c.in-Some.ensures c.in-Some-pass_all_ends.ensures
