use Rattle.std.proofs.Common.{rules, ◌≡◌, ◌∙◌, refl, sym, false, true}
use Rattle.key_mixer.proofs.Fits.{fits_met, fits_apart}
use Rattle.key_mixer.proofs.mixer.fits_in.Goals as goal

pub returns-then-meets : goal.returns-then-meets
returns-then-meets c =
    sym (sym c.members.invariant
    ∙ fits_met c.args.sets.now c.args.group.now c.args.i c.members.j-index _ _ _ _ c.index-sets-from.is c.from.ensures
    c.requires.here c.index-sets-from-in-members.is c.from-in-members.ensures c.requires.members (search rules)
    (c.if-meets.ensures.0 refl))

pub members-preserved : goal.members-preserved
members-preserved c =
    fits_apart c.args.sets.now c.args.group.now c.args.i c.members.j-index _ _ _ _ c.index-sets-from.is c.from.ensures
    c.requires.here c.index-sets-from-in-members.is c.from-in-members.ensures c.requires.members (search rules)
    (λ h. let z : false ≡ true = c.if-meets.ensures.1 h in cc)
    ∙ c.members.invariant
