use Rattle.server_shim.proofs.Waiting.{leaves}
use Rattle.server_shim.proofs.calls.Calls.take_out.Goals as goal

pub returns-clause-ready : goal.returns-clause-ready
returns-clause-ready c =
    leaves c.args.u c.args.self.now.copies c.take_out.new.self c.args.self.now.ready c.take_out-2.new.self c.args.no c.requires.ready
    c.take_out.ensures.without c.take_out-2.ensures.without
