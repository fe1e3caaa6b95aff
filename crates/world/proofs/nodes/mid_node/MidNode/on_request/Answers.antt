use Rattle.std.proofs.Common.{◌∙◌, sym, ap, Some, None, Err}
use Rattle.std.proofs.lemmas.Result.{err_from_is_err_and}
use Rattle.round_model.specs.Lists.{put_at}
use Rattle.world.proofs.Rows.MidRows.{request_passed, request_taken, request_none}
use Rattle.world.proofs.nodes.mid_node.MidNode.on_request.Goals as goal
use Rattle.world.proofs.nodes.mid_node.MidNode.on_request.Goals.{then-seq-ne1-via-then-seq-ne1, then-seq-ne1-via-else-seq-ne1+then-has}

pub returns-then-seq-ne1 : goal.returns-then-seq-ne1
returns-then-seq-ne1 c disk out =
    request_passed c.self.inside.node c.self.inside.depth c.self.inside.pending c.args.self.now disk out c.args.from
    c.in-Client.client c.args.seq c.args.body.now c.self.view_is c.in-Client.is c.requires
    (elim c.then-seq-ne1.branch [
      | then-seq-ne1-via-then-seq-ne1 w ↦ λ e. absurd (w.if-seq-ne1.true e)
      | then-seq-ne1-via-else-seq-ne1+then-has
          w ↦ λ e. sym w.has.ensures ∙ w.if-has.true
    ])

pub returns-in_err-body : goal.returns-in_err-body
returns-in_err-body c disk out =
    let p = err_from_is_err_and c.from_residual.result c.from_residual.ensures.1 in
    request_none c.self.inside.node c.self.inside.depth c.self.inside.pending c.args.self.now disk out c.args.from
    c.in-Client.client c.args.seq c.args.body.now c.from_residual.result c.self.view_is c.in-Client.is c.requires
    c.if-seq-ne1.false (sym c.has.ensures ∙ c.if-has.false) (p.1 ∙ ap Err p.2)

pub returns : goal.returns
returns c disk out =
    request_taken c.self.inside.node c.self.inside.depth c.self.inside.pending c.set.new.self c.args.self.now disk out
    c.args.from c.in-Client.client c.args.seq c.args.body.now c.self.view_is c.in-Client.is c.requires
    c.if-seq-ne1.false (sym c.has.ensures ∙ c.if-has.false) (c.set.ensures
    ∙ ap (λ b. put_at None c.self.inside.pending c.in-Client.client
    (Some (record { client = c.in-Client.client; seq = c.args.seq; body = b }))) c.in_ok-body.ensures)
