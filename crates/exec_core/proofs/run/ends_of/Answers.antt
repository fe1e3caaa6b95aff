use Rattle.std.proofs.Common.{◌≡◌, ◌∙◌, map, length, sym}
use Rattle.exec_core.proofs.Ends.{slot_end, ends_in_order, one_ended, none_left}
use Rattle.exec_core.proofs.run.ends_of.Goals as goal

pub slots-preserved : goal.slots-preserved
slots-preserved g c =
    one_ended (slot_end g.P.Program.plan) c.slots.ends.items c.push.new.self.items c.in-Some.slot
    c.slots.slot-iterator.rest.items c.next.new.self.rest.items c.end_of_slot.result
    (map (slot_end g.P.Program.plan) c.args.slots.items) c.in-Some.ensures.steps.0 c.in_ok-push.ensures.items c.end_of_slot.ensures c.slots.invariant

pub returns : goal.returns
returns g c =
    let none : length c.slots.slot-iterator.rest.items ≡ 0 = sym c.slots.slot-iterator.rest.ok.0 ∙ c.in-None.ensures.steps.0 in
    none_left (slot_end g.P.Program.plan) c.slots.ends.items c.slots.slot-iterator.rest.items
    (map (slot_end g.P.Program.plan) c.args.slots.items) none c.slots.invariant
    ∙ ends_in_order g.P.Program.plan c.args.slots.items
