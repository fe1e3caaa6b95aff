use Rattle.std.proofs.Common.{arith}
use Rattle.frames.specs.declared.message.Msg.TheVariants.{Log}
use Rattle.frames.proofs.BodyLengths.{body_length}
use Rattle.frames.proofs.writing.encode_log.Goals as goal

pub with_length-requires-clause-high : goal.with_length-requires-clause-high
with_length-requires-clause-high c =
    let size = body_length c.args.from.tier (Log c.args.msg.now) c.requires.message in
    rw (c.in_ok-put_log.ensures, c.in_ok-out.ensures) (omega (arith, size))
