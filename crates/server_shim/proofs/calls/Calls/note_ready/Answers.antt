use Rattle.server_shim.proofs.Waiting.{joins, goes_back}
use Rattle.server_shim.proofs.calls.Calls.note_ready.Goals as goal

pub returns-in-Ok-clause-ready : goal.returns-in-Ok-clause-ready
returns-in-Ok-clause-ready c =
    joins c.args.u c.args.self.now.copies c.put-2.new.self c.args.self.now.ready c.put.new.self c.args.no c.args.copies c.args.text
    c.requires.ready c.requires.agreed c.in_ok-put.ensures.ok c.in-Ok.ensures.ok

pub returns-in-Err-clause-ready : goal.returns-in-Err-clause-ready
returns-in-Err-clause-ready c =
    goes_back c.args.u c.args.self.now.copies c.put-2.new.self c.args.self.now.ready c.put.new.self c.take_out.new.self c.args.no c.args.text
    c.requires.ready c.in-Err.ensures.new c.in_ok-put.ensures.ok c.take_out.ensures.without c.in-Err.ensures.err
