use Rattle.std.proofs.Common.{◌∙◌}
use Rattle.std.specs.Prelude.{slice_index_or}
use Rattle.std.proofs.lemmas.Option.{slice_get-get_or}
use Rattle.world.proofs.Turns.RepeatedFrames.{sends_more}
use Rattle.world.proofs.nodes.telling.send_all.Goals as goal

pub frame_at-requires-clause-before : goal.frame_at-requires-clause-before
frame_at-requires-clause-before c = (c.args.out.now, c.items.ensures ∙ c.loop-i.invariant)

pub loop-i-preserved : goal.loop-i-preserved
loop-i-preserved c =
    sends_more c.args.from.tier c.args.from.index c.items-list.result.now c.loop-i.i
    (slice_index_or c.items-list.result.now c.loop-i.i c.index-list-i.result) c.in_ok-bytes.bytes c.args.out.now
    c.loop-i.out c.push.new.self
    (slice_get-get_or c.items-list.result.now c.loop-i.i c.index-list-i.result c.loop-i-test.true) c.in_ok-bytes.ensures
    c.in_ok-push.ensures.ok c.loop-i.invariant
