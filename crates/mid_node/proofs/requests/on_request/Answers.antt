use Rattle.std.proofs.Common.{sym, ◌∙◌}
use Rattle.mid_node.proofs.Asked.{kept_text, waits}
use Rattle.mid_node.proofs.requests.on_request.Goals as goal

pub send_reply-requires-clause-text : goal.send_reply-requires-clause-text
send_reply-requires-clause-text c =
    kept_text c.requires.range.0 c.args.member c.args.up.now c.clients.result.now c.args.who c.in-Some.text.now c.requires.range.1 c.clients.ensures
    c.in-Some.ensures

pub returns : goal.returns
returns c p range =
    waits p c.args.member c.args.up.now c.clients-2.result.now c.args.who c.args.body.now c.in_ok-body.body c.put.new.self c.args.out.now
    c.without_facts-2.result range c.requires.client c.requires.number c.requires.text c.clients-2.ensures
    (sym c.is_new.ensures ∙ c.if-not-is_new.false) c.in_ok-body.ensures c.put.ensures c.without_facts-2.ensures.facts c.without_facts-2.ensures.answer
