use Rattle.std.proofs.Common.{arith}
use Rattle.frames.specs.Frames.{tier_of}
use Rattle.frames.proofs.BodyLengths.{body_length}
use Rattle.frames.proofs.writing.encode.Goals as goal

pub with_length-requires-clause-high : goal.with_length-requires-clause-high
with_length-requires-clause-high c =
    let size = body_length (tier_of c.args.from) c.args.msg.now c.requires.message in
    rw (c.in_ok-put_body.ensures, c.in_ok-out.ensures) (omega (arith, size))
