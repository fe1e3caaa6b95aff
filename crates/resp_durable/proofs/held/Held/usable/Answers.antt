use Rattle.round_model.proofs.HeldLaws.{usable_exactly}
use Rattle.resp_durable.proofs.held.Held.usable.Goals as goal

pub returns-clause-exactly : goal.returns-clause-exactly
returns-clause-exactly c =
    usable_exactly _ c.args.self.now c.args.tier c.args.no c.find.result c.usable_code.result c.self.view_is c.find.ensures.answer
    c.usable_code.ensures.code
