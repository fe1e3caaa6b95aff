use Rattle.std.proofs.Common.{subst, sym, ◌∙◌}
use Rattle.spec_barrier.specs.Barriers.{RoundsDiffer}
use Rattle.spec_barrier.proofs.Groups.{found, not_found, given, gone, removed_differ, nothing_there, nothing_goes}
use Rattle.spec_barrier.proofs.barrier.Barrier.release.Goals as goal

pub invariant_of-self : goal.invariant_of-self
invariant_of-self g c =
    let at = found c.self.inside.groups.items c.deref.result.now c.args.round c.in-Some.place c.place_of.result c.deref.ensures.value
    c.place_of.ensures c.in-Some.is in
    subst RoundsDiffer (sym c.remove-packets.ensures.items) (removed_differ c.self.inside.groups.items c.args.round c.in-Some.place c.self.invariant at)

pub returns-in-Some-clause-released : goal.returns-in-Some-clause-released
returns-in-Some-clause-released g c =
    let at = found c.self.inside.groups.items c.deref.result.now c.args.round c.in-Some.place c.place_of.result c.deref.ensures.value
    c.place_of.ensures c.in-Some.is in
    c.into_vec.ensures ∙ given c.args.self.now c.self.inside.applied c.self.inside.groups.items c.args.round c.in-Some.place c.remove-packets.result
    c.self.view_is at c.remove-packets.ensures.value

pub returns-in-Some-clause-held : goal.returns-in-Some-clause-held
returns-in-Some-clause-held g c =
    let at = found c.self.inside.groups.items c.deref.result.now c.args.round c.in-Some.place c.place_of.result c.deref.ensures.value
    c.place_of.ensures c.in-Some.is in
    gone c.args.self.now c.self.inside.applied c.self.inside.groups.items c.remove-packets.new.self.items c.args.round c.in-Some.place c.self.view_is
    c.self.invariant at c.remove-packets.ensures.items

pub returns-in-None-clause-released : goal.returns-in-None-clause-released
returns-in-None-clause-released g c =
    let none = not_found c.self.inside.groups.items c.deref.result.now c.args.round c.place_of.result c.deref.ensures.value c.place_of.ensures c.in-None.is in
    c.new.ensures.items ∙ sym (nothing_there c.args.self.now c.self.inside.applied c.self.inside.groups.items c.args.round c.self.view_is none)

pub returns-in-None-clause-held : goal.returns-in-None-clause-held
returns-in-None-clause-held g c =
    let none = not_found c.self.inside.groups.items c.deref.result.now c.args.round c.place_of.result c.deref.ensures.value c.place_of.ensures c.in-None.is in
    nothing_goes c.args.self.now c.args.round
    (nothing_there c.args.self.now c.self.inside.applied c.self.inside.groups.items c.args.round c.self.view_is none)
