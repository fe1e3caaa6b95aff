use Rattle.std.proofs.Common.{refl, sym, append-nil, Ok}
use Rattle.applied_rounds.specs.States.{programs_of}
use Rattle.node_log.specs.LogNodes.{whole_turn}
use Rattle.node_log.proofs.Turns.{turn_sends}
use Rattle.mid_rounds.proofs.DecidedMoves.{had_none, kept_both}
use Rattle.mid_node.proofs.Turned.{applied, moved_to, undue}
use Rattle.mid_node.proofs.turns.take_turn.Goals as goal
use Rattle.mid_node.proofs.turns.take_turn.Goals.{then-is_due+in_ok-apply_due, else-is_due}

pub decide_turn-requires-clause-fit : goal.decide_turn-requires-clause-fit
decide_turn-requires-clause-fit g c = turn_sends c.args.member.faults c.args.member.me.tier (whole_turn c.args.up.now.log.state c.args.turn) c.requires.turn

pub returns-in_err-apply_due : goal.returns-in_err-apply_due
returns-in_err-apply_due g c = λ before e.
    had_none (programs_of (g.S.Service.table c.args.svc.now) (g.S.Service.beginning c.args.svc.now)) c.args.member _ c.args.up.now c.apply_due.new.up
    c.args.out.now c.apply_due.new.out c.from_residual-in_err-apply_due.result c.from_residual-in_err-apply_due.ensures.0
    (kept_both c.args.out.now c.decide_turn.new.out c.apply_due.new.out c.decide_turn.ensures.kept c.apply_due.ensures.kept)

pub returns : goal.returns
returns g c = λ before e.
    let p = programs_of (g.S.Service.table c.args.svc.now) (g.S.Service.beginning c.args.svc.now) in
    elim c.if-is_due.branch [
      | then-is_due+in_ok-apply_due w ↦
          moved_to p c.args.member _ c.args.up.now w.apply_due.new.up c.if-is_due.up c.args.out.now w.apply_due.new.out c.if-is_due.out
          (Ok c.in_ok-decided.decided) w.up-is w.out-is
          (applied p c.args.member c.args.up.now w.apply_due.new.up before c.args.at c.args.turn c.args.out.now c.decide_turn.new.out w.apply_due.new.out
          c.in_ok-decided.decided c.is_due.result w.if-is_due.true c.is_due.ensures
          (record {
            at_is = e;
            tier = c.requires.member.tier;
            facts = c.in_ok-decided.ensures.facts;
            answer_is = c.in_ok-decided.ensures.answer;
            sent = c.in_ok-decided.ensures.sent;
            turned = c.requires.turn;
          })
          (record {
            state = w.in_ok-apply_due.ensures.state;
            sent = w.in_ok-apply_due.ensures.sent;
            journal = w.in_ok-apply_due.ensures.journal;
            range = w.in_ok-apply_due.ensures.range;
          }))
      | else-is_due w ↦
          moved_to p c.args.member _ c.args.up.now c.args.up.now c.if-is_due.up c.args.out.now c.decide_turn.new.out c.if-is_due.out
          (Ok c.in_ok-decided.decided) w.up-is w.out-is
          (undue p c.args.member c.args.up.now c.args.up.now before c.args.at c.args.turn c.args.out.now c.decide_turn.new.out c.decide_turn.new.out
          c.in_ok-decided.decided c.is_due.result w.if-is_due.false c.is_due.ensures
          (record {
            at_is = e;
            tier = c.requires.member.tier;
            facts = c.in_ok-decided.ensures.facts;
            answer_is = c.in_ok-decided.ensures.answer;
            sent = c.in_ok-decided.ensures.sent;
            turned = c.requires.turn;
          })
          (record { state = refl; sent = sym (append-nil c.decide_turn.new.out); journal = refl; range = c.requires.range }))
    ]
