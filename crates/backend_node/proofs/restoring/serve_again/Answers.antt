use Rattle.round_model.specs.Shims.{new_shim}
use Rattle.backend_node.specs.Backends.{back_with, backend_by}
use Rattle.backend_node.proofs.Values.{values_more}
use Rattle.backend_node.proofs.restoring.serve_again.Goals as goal

pub loop-at-preserved : goal.loop-at-preserved
loop-at-preserved g c = (
  values_more (backend_by g.B.Backend.opening g.B.Backend.state_after g.B.Backend.code_of)
      (record { log = c.args.log.now.state; state = g.B.Backend.opening; shim = new_shim c.args.member.faults })
      (back_with c.args.log.now.state c.loop-at.serving) (back_with c.args.log.now.state c.learn_at.new.self) c.args.log.now.state.learned c.loop-at.at
      c.loop-at.invariant.0 c.in_ok-_answer.ensures.state,
  c.in_ok-_answer.ensures.range c.args.member.faults c.loop-at.invariant.1,
)
