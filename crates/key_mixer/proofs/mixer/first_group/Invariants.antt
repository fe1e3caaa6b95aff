use Rattle.key_mixer.specs.Lists.{lists_of, set_at}
use Rattle.key_mixer.proofs.Fits.{NoneFits}
use Rattle.key_mixer.proofs.mixer.first_group.Given as goal

abbrev pub invariant-groups : goal.invariant-groups
invariant-groups l = NoneFits (set_at l.sets) l.i (lists_of l.groups) l.at
