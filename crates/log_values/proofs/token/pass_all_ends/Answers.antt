use Rattle.std.proofs.lemmas.Bool.{le-leb}
use Rattle.log_values.specs.declared.format.TheConstants.{TOKEN_ENDS}
use Rattle.log_values.specs.Outcomes.{ending_at, all_ends_at}
use Rattle.log_values.proofs.Tokens.{list_counted}
use Rattle.log_values.proofs.token.pass_all_ends.Goals as goal

pub returns : goal.returns
unfolding all_ends_at
returns c = rw (c.in-Some.ensures.exact, le-leb c.in-Some.count TOKEN_ENDS c.if-count-gt-TOKEN_ENDS.false)
    (list_counted ending_at c.in-Some.count c.take_u8.new.self c.pass_ends.new.from c.in-Some-pass_ends.ensures)
