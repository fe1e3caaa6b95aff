use Rattle.round_model.proofs.HeldLaws.{floor_below_put, floor_from, floor_most}
use Rattle.resp_durable.proofs.answers.Answers.note.Goals as goal

pub raise-requires-clause-below : goal.raise-requires-clause-below
raise-requires-clause-below c =
    floor_below_put c.args.replica.faults c.args.replica.me c.args.self.now.table c.put.new.self c.args.no c.args.self.now.floor
    c.args.answer c.requires.floor.least c.in_ok-put.ensures.ok c.requires.usable

pub raise-requires-clause-first : goal.raise-requires-clause-first
raise-requires-clause-first c = rw c.requires.floor.least (floor_from c.args.replica.faults c.args.replica.me c.args.self.now.table)

pub raise-requires-clause-last : goal.raise-requires-clause-last
raise-requires-clause-last c = rw c.requires.floor.least (floor_most c.args.replica.faults c.args.replica.me c.args.self.now.table)
