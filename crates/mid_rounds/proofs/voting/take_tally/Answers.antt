use Rattle.std.proofs.Common.{◌∙◌}
use Rattle.mid_rounds.proofs.Votes.{taken_faults, taken_none, taken_some}
use Rattle.mid_rounds.proofs.voting.take_tally.Goals as goal

pub returns-in-Some-clause-claims : goal.returns-in-Some-clause-claims
returns-in-Some-clause-claims c = taken_some c.args.tallies.now c.args.no c.in-Some.tally c.in-Some.ensures.value

pub returns-in-Some-clause-faults : goal.returns-in-Some-clause-faults
returns-in-Some-clause-faults c =
    taken_faults c.args.member.faults c.args.tallies.now c.args.no c.in-Some.tally c.requires.tallies c.in-Some.ensures.value

pub returns-in-None-clause-claims : goal.returns-in-None-clause-claims
returns-in-None-clause-claims c = c.new.ensures.claims ∙ taken_none c.args.tallies.now c.args.no c.in-None.ensures.value
