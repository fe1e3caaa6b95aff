use Rattle.applied_rounds.specs.States.{programs_of}
use Rattle.mid_node.proofs.Framed.{answered, claimed, heard}
use Rattle.mid_node.proofs.frames_in.on_message.Goals as goal

pub returns-in-Some : goal.returns-in-Some
returns-in-Some g c =
    let p = programs_of (g.S.Service.table c.args.svc.now) (g.S.Service.beginning c.args.svc.now) in
    claimed p c.args.member c.args.up.now c.on_token.new.up c.args.out.now c.on_token.new.out c.on_token.result c.args.from c.args.message.now
    c.in-Token.round c.in-Some.index c.in-Token.token c.in-Token.order c.items.result.now c.in-Token.is c.in-Some.ensures.0 c.in-Some.ensures.1.0
    c.items.ensures (c.on_token.ensures p c.requires.range)

pub returns-in-Some-backend_in : goal.returns-in-Some-backend_in
returns-in-Some-backend_in g c =
    let p = programs_of (g.S.Service.table c.args.svc.now) (g.S.Service.beginning c.args.svc.now) in
    answered p c.args.member c.args.up.now c.on_answer.new.up c.args.out.now c.on_answer.new.out c.on_answer.result c.args.from c.args.message.now
    c.in-Some-backend_in.tier c.in-Answer.no c.in-Answer.code c.in-Answer.is c.in-Some-backend_in.ensures.0 c.in-Some-backend_in.ensures.1.0
    (c.on_answer.ensures p c.requires.range)

pub returns-in-Some-node_in : goal.returns-in-Some-node_in
returns-in-Some-node_in g c =
    let p = programs_of (g.S.Service.table c.args.svc.now) (g.S.Service.beginning c.args.svc.now) in
    heard p c.args.member c.args.up.now c.on_have.new.up c.args.out.now c.on_have.new.out c.on_have.result c.args.from c.args.message.now
    c.in-Some-node_in.index c.in-Have.tier c.in-Have.no c.in-Have.code c.in-Have.is c.in-Some-node_in.ensures.0 c.in-Some-node_in.ensures.1.0
    (c.on_have.ensures p c.requires.range)
