use Rattle.std.proofs.Common.{refl}
use Rattle.node_log.specs.LogNodes.{whole_turn}
use Rattle.node_log.proofs.Turns.{turn_sends}
use Rattle.backend_node.specs.Backends.{backend_by}
use Rattle.backend_node.proofs.Decided.{all_fit, had_none, kept_both, taken}
use Rattle.backend_node.proofs.turns.take_turn.Goals as goal

pub decide_turn-requires-clause-fit : goal.decide_turn-requires-clause-fit
decide_turn-requires-clause-fit g c = turn_sends c.args.member.faults c.args.member.me.tier (whole_turn c.args.up.now.log.state c.args.turn) c.requires.turn

pub learn_at-requires : goal.learn_at-requires
learn_at-requires g c = record { fit = all_fit c.args.member c.args.up.now.log c.requires.range.log }

pub returns-in_err-send_answer_if : goal.returns-in_err-send_answer_if
returns-in_err-send_answer_if g c = λ before e.
    had_none c.args.member _ c.args.up.now _ c.args.out.now c.send_answer_if.new.out c.from_residual-in_err-send_answer_if.result
    c.from_residual-in_err-send_answer_if.ensures.0
    (kept_both c.args.out.now c.decide_turn.new.out c.send_answer_if.new.out c.decide_turn.ensures.kept c.send_answer_if.ensures.kept)

pub returns : goal.returns
returns g c = λ before e.
    taken (backend_by g.B.Backend.opening g.B.Backend.state_after g.B.Backend.code_of) c.args.member c.args.up.now _ before c.args.at c.args.turn
    c.in_ok-answer.answer c.args.out.now c.decide_turn.new.out c.send_answer_if.new.out c.in_ok-decided.decided
    (record {
      at_is = e;
      facts = c.in_ok-decided.ensures.facts;
      answer_is = c.in_ok-decided.ensures.answer;
      sent = c.in_ok-decided.ensures.sent;
      log = refl;
      journal = refl;
      state = c.in_ok-answer.ensures.state;
      code = c.in_ok-answer.ensures.answer;
      answered = c.in_ok-send_answer_if.ensures.sent;
    }) c.requires.turn c.requires.range (c.in_ok-answer.ensures.range c.args.member.faults c.requires.range.shim)
