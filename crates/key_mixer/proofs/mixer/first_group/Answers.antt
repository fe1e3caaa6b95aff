use Rattle.std.proofs.Common.{rules, ◌≡◌, ◌+◌, ◌<◌, ◌∙◌, sym, subst, length, suc, arith}
use Rattle.key_mixer.specs.Lists.{lists_of, set_at, FirstFit}
use Rattle.key_mixer.proofs.Fits.{NoneFits, none_more, first_from, first_none, fits_place, length-lists}
use Rattle.key_mixer.proofs.mixer.first_group.Goals as goal

pub returns-then-fits_in-clause-first : goal.returns-then-fits_in-clause-first
returns-then-fits_in-clause-first c =
    let sets = set_at c.args.sets.now in
    let lt : c.groups.at < length c.args.groups.now = search rules in
    let long = length-lists c.args.groups.now in
    first_from sets c.args.i (lists_of c.args.groups.now) c.groups.at (omega arith) c.groups.invariant
    (fits_place sets c.args.i c.args.groups.now c.groups.at _ _ lt c.index-groups-at.is c.deref.ensures.value ∙ sym c.fits_in.ensures ∙ c.if-fits_in.true)

pub groups-preserved : goal.groups-preserved
groups-preserved c =
    let sets = set_at c.args.sets.now in
    let lt : c.groups.at < length c.args.groups.now = search rules in
    let long = length-lists c.args.groups.now in
    let more : suc c.groups.at ≡ c.groups.at + 1 = omega arith in
    subst (NoneFits sets c.args.i (lists_of c.args.groups.now)) more
    (none_more sets c.args.i (lists_of c.args.groups.now) c.groups.at (omega arith) c.groups.invariant
    (fits_place sets c.args.i c.args.groups.now c.groups.at _ _ lt c.index-groups-at.is c.deref.ensures.value ∙ sym c.fits_in.ensures ∙ c.if-fits_in.false))

pub returns-clause-first : goal.returns-clause-first
returns-clause-first c =
    let sets = set_at c.args.sets.now in
    let long = length-lists c.args.groups.now in
    let end : c.groups.at ≡ length c.args.groups.now = (let a = c.groups-test.false in let b = c.groups.auto.at-end in omega arith) in
    subst (FirstFit sets c.args.i (lists_of c.args.groups.now)) end
    (first_none sets c.args.i (lists_of c.args.groups.now) c.groups.at (omega arith) c.groups.invariant)
