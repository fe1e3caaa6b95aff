use Rattle.tier_laws.proofs.Lists.FewNodes.{few}
use Rattle.tier_laws.proofs.Said.LaterStarts.{starts_later}
use Rattle.tier_laws.proofs.Said.RepliesLast.{replied_before, finished_before}
use Rattle.tier_laws.proofs.laws.real_order.Goals as goal

pub returns-clause-starts : goal.returns-clause-starts
returns-clause-starts g x c es fs i n who body l laws e new = starts_later c es fs i n who body (few c.u l) laws e new

pub returns-clause-replied : goal.returns-clause-replied
returns-clause-replied g x c es fs k i n e who body l laws told new at = replied_before c es fs k i n e who body (few c.u l) laws told new at

pub returns-clause-finished : goal.returns-clause-finished
returns-clause-finished g x c es fs k i j n e who body step l laws told new at is own = finished_before c es fs k i j n
    e who body step (few c.u l) laws told new at is own
