use Rattle.std.proofs.Common.{arith}
use Rattle.frames.proofs.FrameGrammar.{is_found, is_only}
use Rattle.frames.proofs.reading.decode.Goals as goal

pub returns-clause-found : goal.returns-clause-found
returns-clause-found c = is_found c.args.bytes.now c.frame_in.result (λ i. omega (arith, c.type_inv.bytes i)) c.frame_in.ensures.exact

pub returns-clause-only : goal.returns-clause-only
returns-clause-only c = λ from msg is. is_only c.args.bytes.now c.frame_in.result from msg c.frame_in.ensures.exact is
