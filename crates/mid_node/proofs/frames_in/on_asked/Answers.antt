use Rattle.applied_rounds.specs.States.{programs_of}
use Rattle.mid_node.proofs.Framed.{asked}
use Rattle.mid_node.proofs.frames_in.on_asked.Goals as goal

pub returns : goal.returns
returns g c =
    let p = programs_of (g.S.Service.table c.args.svc.now) (g.S.Service.beginning c.args.svc.now) in
    asked p c.args.member c.args.up.now c.on_request.new.up c.args.out.now c.on_request.new.out c.on_request.result c.args.from c.in-Client.client
    c.args.seq c.args.body.now c.in_ok-is_request.field-0 c.in-Client.is c.if-not-branch.false c.in_ok-is_request.ensures
    (c.on_request.ensures p c.requires.range)
