use Rattle.std.proofs.Common.{sym}
use Rattle.server_shim.proofs.Waiting.{waits}
use Rattle.server_shim.proofs.calls.Calls.note.Goals as goal

pub returns-in-None-clause-ready : goal.returns-in-None-clause-ready
returns-in-None-clause-ready c =
    let none = sym c.in-None.ensures.text in
    waits c.put.result c.args.u c.args.self.now.copies c.put.new.self c.args.self.now.ready c.args.no c.args.copies c.requires.ready none
    (c.requires.stays none) c.put.ensures.ok c.put.ensures.err
