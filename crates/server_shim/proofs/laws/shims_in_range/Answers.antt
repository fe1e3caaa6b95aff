use Rattle.server_shim.proofs.Ranged.{new_in, notes_in, serves_in, settles_in, told_in, ready_in, settled_in, highest_in}
use Rattle.server_shim.proofs.laws.shims_in_range.Goals as goal

pub returns-clause-begins : goal.returns-clause-begins
returns-clause-begins c = new_in

pub returns-clause-notes : goal.returns-clause-notes
returns-clause-notes c = notes_in

pub returns-clause-serves : goal.returns-clause-serves
returns-clause-serves c = serves_in

pub returns-clause-settles : goal.returns-clause-settles
returns-clause-settles c = settles_in

pub returns-clause-told : goal.returns-clause-told
returns-clause-told c = told_in

pub returns-clause-ready : goal.returns-clause-ready
returns-clause-ready c = ready_in

pub returns-clause-due : goal.returns-clause-due
returns-clause-due c = settled_in

pub returns-clause-highest : goal.returns-clause-highest
returns-clause-highest c = highest_in
