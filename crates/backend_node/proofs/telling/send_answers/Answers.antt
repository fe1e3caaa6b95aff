use Rattle.std.specs.Prelude.{slice_index_or}
use Rattle.std.proofs.lemmas.Option.{slice_get-get_or}
use Rattle.backend_node.proofs.Values.{again_more}
use Rattle.backend_node.proofs.telling.send_answers.Goals as goal

pub loop-i-preserved : goal.loop-i-preserved
loop-i-preserved c =
    again_more c.args.member.faults c.args.member.me.tier c.args.member.me.index c.args.codes.now c.loop-i.i
    (slice_index_or c.args.codes.now c.loop-i.i (0, 0)) c.args.out.now c.loop-i.out c.send_answer.new.out
    (slice_get-get_or c.args.codes.now c.loop-i.i (0, 0) c.loop-i-test.true) c.loop-i.invariant c.in_ok-send_answer.ensures.sent
