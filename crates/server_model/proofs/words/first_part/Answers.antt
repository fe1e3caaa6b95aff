use Rattle.std.proofs.Common.{add-one, arith}
use Rattle.server_model.proofs.WordLaws.{parts_of-at, parts_of-none}
use Rattle.server_model.proofs.WordLaws.{take-rest}
use Rattle.server_model.proofs.words.first_part.Goals as goal

pub returns-then-b-separator-clause-parts : goal.returns-then-b-separator-clause-parts
returns-then-b-separator-clause-parts c = simp take-rest
    (rw add-one (parts_of-at c.args.separator c.args.text.now c.loop-i.i c.loop-i.invariant c.loop-i-test.true
    c.if-b-separator.true))

pub returns-clause-parts : goal.returns-clause-parts
returns-clause-parts c = parts_of-none c.args.separator c.args.text.now (λ k h. c.loop-i.invariant k (omega arith))
