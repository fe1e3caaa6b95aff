use Rattle.std.proofs.Common.{◌≡◌, drop}
use Rattle.exec_model.specs.Groups.{fits}
use Rattle.key_mixer.specs.Lists.{set_at}
use Rattle.key_mixer.proofs.mixer.fits_in.Given as goal

-- what is left tells what all tell
abbrev pub invariant-members : goal.invariant-members
invariant-members l = fits (set_at l.sets) (set_at l.sets l.i) (drop l.j-index l.group) ≡ fits (set_at l.sets) (set_at l.sets l.i) l.group
