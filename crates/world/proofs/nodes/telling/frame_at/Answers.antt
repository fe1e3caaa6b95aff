use Rattle.std.proofs.Common.{◌<◌, ◌-◌, length, arith, sym}
use Rattle.std.specs.Prelude.{slice_index_or}
use Rattle.std.proofs.lemmas.Bool.{OnTrue_at}
use Rattle.std.proofs.lemmas.Option.{slice_get-get_or}
use Rattle.world.proofs.Turns.RepeatedFrames.{written, copied}
use Rattle.world.proofs.nodes.telling.frame_at.Goals as goal

pub returns-in-Some : goal.returns-in-Some
returns-in-Some c =
    let some : 0 < c.args.i = grind (arith, c.if-i-gt0.true) in
    let below : c.args.i - 1 < length c.args.sends.now = omega (arith, some, c.requires.within) in
    copied c.args.from.tier c.args.from.index c.args.sends.now c.args.i
    (slice_index_or c.args.sends.now (c.args.i - 1) c.index-sends-i-then-i-gt0.result)
    (slice_index_or c.args.sends.now c.args.i c.index-sends-i.result) c.args.sent.now c.in-Some.field-0.now c.copy.result some
    (slice_get-get_or c.args.sends.now (c.args.i - 1) c.index-sends-i-then-i-gt0.result below)
    (slice_get-get_or c.args.sends.now c.args.i c.index-sends-i.result c.requires.within)
    (OnTrue_at c.if-is_again.true c.is_again.ensures) c.requires.before (sym c.in-Some.ensures.value) c.copy.ensures

pub returns : goal.returns
returns c =
    written c.args.from.tier c.args.from.index c.args.sends.now c.args.i
    (slice_index_or c.args.sends.now c.args.i c.index-sends-i.result) c.encode_log.result
    (slice_get-get_or c.args.sends.now c.args.i c.index-sends-i.result c.requires.within) c.encode_log.ensures
