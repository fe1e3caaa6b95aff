use Rattle.run_model.specs.Runs.{world}
use Rattle.tier_laws.proofs.Lists.FewNodes.{inv}
use Rattle.tier_laws.proofs.Said.FromInvariant.{chosen_here, sound_here, learned, learn_told, disk_learned}
use Rattle.tier_laws.proofs.laws.agreement.Goals as goal

pub returns-clause-chosen : goal.returns-clause-chosen
returns-clause-chosen g x c es t p v l laws m = chosen_here c (world c es) t p v (inv c es l laws) m

pub returns-clause-learned : goal.returns-clause-learned
returns-clause-learned g z c es t x p v l laws n e = learned c (world c es) t x p v (inv c es l laws) n e

pub returns-clause-told : goal.returns-clause-told
returns-clause-told g z c es t i p k v l laws b e f = learn_told c (world c es) t i k p v (inv c es l laws) b e f

pub returns-clause-on_disk : goal.returns-clause-on_disk
returns-clause-on_disk g z c es t x p v records l laws n s e = disk_learned c (world c es) t x p v records (inv c es l laws) n s e

pub returns-clause-sound : goal.returns-clause-sound
returns-clause-sound g z c es t p v l laws e = sound_here c (world c es) t p v (inv c es l laws) e
