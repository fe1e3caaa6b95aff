-- The facts of the log among those of records.
use Rattle.std.proofs.Common.{◌≡◌, List, [], ◌∷◌, refl}
use Rattle.log_model.specs.Recover.{onto}
use Rattle.log_values.specs.declared.fact.Fact.{Fact}
use Rattle.log_values.specs.declared.fact.Fact.TheVariants.{Promised, Accepted, Learned, Held}
use Rattle.tier_model.specs.Moves.{log_facts}

pub log_facts-onto : (fs F : List Fact) → log_facts (onto fs F) ≡ onto (log_facts fs) (log_facts F)
log_facts-onto [] F = refl
log_facts-onto (Promised b ∷ fs) F = log_facts-onto fs (Promised b ∷ F)
log_facts-onto (Accepted p b v ∷ fs) F = log_facts-onto fs (Accepted p b v ∷ F)
log_facts-onto (Learned p v ∷ fs) F = log_facts-onto fs (Learned p v ∷ F)
log_facts-onto (Held t n code ∷ fs) F = log_facts-onto fs (Held t n code ∷ F)
