use Rattle.spec_barrier.proofs.Groups.{found, not_found, same_at, extended, added, added_differ, written_differ, on_ok}
use Rattle.spec_barrier.proofs.barrier.Barrier.hold.Goals as goal

pub invariant_of-self : goal.invariant_of-self
invariant_of-self g c =
    let at = found c.self.inside.groups.items c.deref.result.now c.args.round c.in-Some.place c.place_of.result c.deref.ensures.value
    c.place_of.ensures c.in-Some.is in
    written_differ c.self.inside.groups.items c.extend.new.self c.in-Some.place c.self.invariant
    (same_at c.self.inside.groups.items c.args.round c.in-Some.place c.index_mut.result.now c.extend.new.self at
    c.index_mut.ensures.value c.extend.ensures.round)

pub invariant_of-self-in-None : goal.invariant_of-self-in-None
invariant_of-self-in-None g c =
    let none = not_found c.self.inside.groups.items c.deref.result.now c.args.round c.place_of.result c.deref.ensures.value c.place_of.ensures c.in-None.is in
    added_differ c.self.inside.groups.items c.push.new.self.items c.args.round c.of.result c.self.invariant none c.in_ok-push-in-None.ensures.items

pub returns-in-Some-clause-held : goal.returns-in-Some-clause-held
returns-in-Some-clause-held g c =
    let at = found c.self.inside.groups.items c.deref.result.now c.args.round c.in-Some.place c.place_of.result c.deref.ensures.value
    c.place_of.ensures c.in-Some.is in
    on_ok c.extend.result _ _ c.extend.ensures.ok
    (λ made. extended c.args.self.now c.self.inside.applied c.self.inside.groups.items c.args.round c.in-Some.place
    c.index_mut.result.now c.extend.new.self c.args.packets.items c.self.view_is at c.index_mut.ensures.value made)

pub returns-in_ok-push-in-None-clause-held : goal.returns-in_ok-push-in-None-clause-held
returns-in_ok-push-in-None-clause-held g c =
    let none = not_found c.self.inside.groups.items c.deref.result.now c.args.round c.place_of.result c.deref.ensures.value c.place_of.ensures c.in-None.is in
    added c.args.self.now c.self.inside.applied c.self.inside.groups.items c.push.new.self.items c.args.round c.of.result c.args.packets.items
    c.self.view_is none c.in_ok-push-in-None.ensures.items c.of.ensures
