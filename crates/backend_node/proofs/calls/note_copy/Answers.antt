use Rattle.backend_node.proofs.FirstCopies.{noted}
use Rattle.backend_node.proofs.calls.note_copy.Goals as goal

pub returns-then-noted : goal.returns-then-noted
returns-then-noted g c = noted c.args.member c.args.up.now c.on_call.new.self c.args.from c.args.no c.args.body.now c.in_ok-noted.noted
    c.without_facts.result c.args.out.now c.requires.range c.requires.number c.requires.text c.requires.open c.if-noted.true c.in_ok-noted.ensures.noted
    c.in_ok-noted.ensures.ok c.without_facts.ensures.facts c.without_facts.ensures.answer
