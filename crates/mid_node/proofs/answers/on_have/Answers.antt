use Rattle.std.proofs.Common.{sym, ◌∙◌}
use Rattle.mid_node.proofs.Answered.{have_again, have_new}
use Rattle.mid_node.proofs.answers.on_have.Goals as goal

pub returns-then-branch : goal.returns-then-branch
returns-then-branch c p range =
    have_new p c.args.member c.args.up.now c.on_have.new.self c.args.from c.args.tier c.args.no c.args.code c.args.out.now c.take_answer.new.out
    c.take_answer.result range c.requires.tier c.requires.code (sym c.noted.ensures.told ∙ c.if-noted.false)
    (sym c.if-branch.true ∙ c.in_ok-on_have.ensures.new) c.in_ok-on_have.ensures.ok
    (record {
      facts = c.take_answer.ensures.facts;
      answer = c.take_answer.ensures.answer;
      sent = c.take_answer.ensures.sent;
      kept = c.take_answer.ensures.kept;
    })

pub returns : goal.returns
returns c p range =
    have_again p c.args.member c.args.up.now c.on_have.new.self c.args.from c.args.tier c.args.no c.args.code c.args.out.now c.without_facts-2.result
    range c.requires.code (sym c.noted.ensures.told ∙ c.if-noted.false) (sym c.if-branch.false ∙ c.in_ok-on_have.ensures.new)
    c.in_ok-on_have.ensures.ok c.without_facts-2.ensures.facts c.without_facts-2.ensures.answer
