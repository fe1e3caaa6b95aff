use Rattle.run_model.specs.Runs.{world}
use Rattle.tier_laws.specs.Services.{booking_run}
use Rattle.tier_laws.proofs.Lists.FewNodes.{booking_inv}
use Rattle.tier_laws.proofs.Said.FromInvariant.{chosen_here, sound_here, learned, learn_told, disk_learned}
use Rattle.tier_laws.proofs.booking_laws.booking_agreement.Goals as goal

pub returns-clause-chosen : goal.returns-clause-chosen
returns-clause-chosen x a es t p v l m = chosen_here (booking_run a) (world (booking_run a) es) t p v (booking_inv a es l) m

pub returns-clause-learned : goal.returns-clause-learned
returns-clause-learned z a es t x p v l n e = learned (booking_run a) (world (booking_run a) es) t x p v (booking_inv a es l) n e

pub returns-clause-told : goal.returns-clause-told
returns-clause-told z a es t i p k v l b e f = learn_told (booking_run a) (world (booking_run a) es) t i k p v (booking_inv a es l) b e f

pub returns-clause-on_disk : goal.returns-clause-on_disk
returns-clause-on_disk z a es t x p v records l n s e = disk_learned (booking_run a) (world (booking_run a) es) t x p v records (booking_inv a es l) n s e

pub returns-clause-sound : goal.returns-clause-sound
returns-clause-sound x a es t p v l e = sound_here (booking_run a) (world (booking_run a) es) t p v (booking_inv a es l) e
