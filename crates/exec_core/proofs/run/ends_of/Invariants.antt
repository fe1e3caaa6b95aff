use Rattle.std.proofs.Common.{◌≡◌, ◌++◌, map}
use Rattle.exec_core.proofs.Ends.{slot_end}
use Rattle.exec_core.proofs.run.ends_of.Given as goal

abbrev pub invariant-slots : goal.invariant-slots
invariant-slots g l = l.ends.items ++ map (slot_end g.P.Program.plan) l.slot-iterator.rest.items ≡ map (slot_end g.P.Program.plan) l.fn.slots.items
