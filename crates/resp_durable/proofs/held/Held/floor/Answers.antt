use Rattle.round_model.specs.Held.{answers_of}
use Rattle.round_model.proofs.HeldLaws.{floor_from, floor_usable, floor_unusable}
use Rattle.resp_durable.proofs.held.Held.floor.Goals as goal

pub returns-clause-from : goal.returns-clause-from
returns-clause-from c =
    rw c.of.ensures.floor (floor_from c.args.self.now.faults c.args.self.now.me (answers_of c.args.self.now c.args.tier))

pub returns-clause-below : goal.returns-clause-below
returns-clause-below c k low high = floor_usable c.args.self.now c.args.tier k low (rw c.of.ensures.floor at high)

pub returns-clause-least : goal.returns-clause-least
returns-clause-least c lt = rw c.of.ensures.floor (floor_unusable c.args.self.now c.args.tier c.of.ensures.sorted (rw c.of.ensures.floor at lt))
