use Rattle.server_shim.proofs.Waiting.{drops}
use Rattle.server_shim.proofs.calls.Calls.drop_below.Goals as goal

pub returns-clause-ready : goal.returns-clause-ready
returns-clause-ready c =
    drops c.args.u c.args.self.now.copies c.drop_below.new.self c.args.self.now.ready c.drop_below-2.new.self c.args.no c.requires.ready
    c.drop_below.ensures.from c.drop_below-2.ensures.from
