use Rattle.std.proofs.Common.{sym, ◌∙◌}
use Rattle.mid_node.proofs.Voted.{counts}
use Rattle.mid_node.proofs.tokens.on_token.Goals as goal

pub returns-then-branch : goal.returns-then-branch
returns-then-branch c p range =
    counts p c.args.member c.args.up.now
    (record { round = c.args.round; from = c.args.from; token = c.args.token.now; order = c.args.order.now })
    c.add_vote.new.tallies c.first_open.result c.args.out.now c.without_facts-then-branch.result range c.requires.round c.requires.fits
    c.first_open.ensures.position c.if-round-first_open.false (sym c.if-branch.true ∙ c.in_ok-add_vote.ensures.added) c.in_ok-add_vote.ensures.votes
    c.in_ok-add_vote.ensures.range c.without_facts-then-branch.ensures.facts c.without_facts-then-branch.ensures.answer
