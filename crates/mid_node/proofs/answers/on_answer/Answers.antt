use Rattle.std.proofs.Common.{sym, ◌∙◌}
use Rattle.mid_node.proofs.Answered.{answer_again, answer_new}
use Rattle.mid_node.proofs.answers.on_answer.Goals as goal

pub returns-then-branch : goal.returns-then-branch
returns-then-branch c p range =
    answer_new p c.args.member c.args.up.now c.on_answer.new.self c.args.tier c.args.no c.args.code c.args.out.now c.take_answer.new.out
    c.take_answer.result range c.requires.tier c.requires.code (sym c.if-branch.true ∙ c.in_ok-on_answer.ensures.new) c.in_ok-on_answer.ensures.ok
    (record {
      facts = c.take_answer.ensures.facts;
      answer = c.take_answer.ensures.answer;
      sent = c.take_answer.ensures.sent;
      kept = c.take_answer.ensures.kept;
    })

pub returns : goal.returns
returns c p range =
    answer_again p c.args.member c.args.up.now c.on_answer.new.self c.args.tier c.args.no c.args.code c.args.out.now c.without_facts.result range
    (sym c.if-branch.false ∙ c.in_ok-on_answer.ensures.new) c.in_ok-on_answer.ensures.ok c.without_facts.ensures.facts c.without_facts.ensures.answer
