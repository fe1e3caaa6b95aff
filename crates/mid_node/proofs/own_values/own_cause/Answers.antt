use Rattle.mid_rounds.specs.Deciding.{mid_in}
use Rattle.mid_node.proofs.OwnValues.{all_applied, few_tokens, unapplied}
use Rattle.mid_node.proofs.own_values.own_cause.Goals as goal

pub returns-then-open-eq1 : goal.returns-then-open-eq1
returns-then-open-eq1 c =
    few_tokens c.args.member.faults (mid_in c.args.member c.args.up.now) c.first_open-open.result c.tokens_in.result c.first_open-open.ensures.position
    c.if-open-eq1.true c.tokens_in.ensures

pub returns-then-applied-open : goal.returns-then-applied-open
returns-then-applied-open c =
    unapplied c.args.member.faults (mid_in c.args.member c.args.up.now) c.first_open-open.result c.applied-applied.result
    c.first_open-open.ensures.position c.if-open-eq1.false c.applied-applied.ensures.is c.if-applied-open.true

pub returns : goal.returns
returns c =
    all_applied c.args.member.faults (mid_in c.args.member c.args.up.now) c.first_open-open.result c.applied-applied.result
    c.first_open-open.ensures.position c.if-open-eq1.false c.applied-applied.ensures.is c.if-applied-open.false
