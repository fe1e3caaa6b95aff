-- What a restart restores from the facts that a node wrote. Here a list of facts has the newest one in front.
use Rattle.std.specs.Prelude.{ℕ, ◌+◌, ◌*◌, List, [], ◌∷◌, ◌++◌, length, ◌==◌, if◌then◌else◌, Option, Some, None, replicate}
use Rattle.aeg_base.specs.Ballots.{no_ballot, is_below}
use Rattle.aeg_base.specs.declared.names.Ballot.{Ballot}
use Rattle.log_model.specs.declared.fact.Fact.{Fact}
use Rattle.log_model.specs.declared.fact.Fact.TheVariants.{Promised, Accepted as Voted, Learned}
use Rattle.log_model.specs.Log.{LogState}

-- the facts of a record, which has the oldest one in front, before older ones
abbrev pub onto : {F : Type 0} → List F → List F → List F
onto [] older = older
onto (f ∷ fs) older = onto fs (f ∷ older)

-- the facts of the records, which have the oldest one in front, before older facts
abbrev pub newest_onto : {F : Type 0} → List (List F) → List F → List F
newest_onto [] older = older
newest_onto (r ∷ rs) older = newest_onto rs (onto r older)

abbrev pub newest : {F : Type 0} → List (List F) → List F
newest records = newest_onto records []

abbrev pub higher : Ballot → Ballot → Ballot
higher b c = if is_below b c then c else b

-- the highest ballot that was promised or accepted with
abbrev pub promised_in : {V : Type 0} → List (Fact V) → Ballot
promised_in [] = no_ballot
promised_in (Promised b ∷ older) = higher (promised_in older) b
promised_in (Voted p b v ∷ older) = higher (promised_in older) b
promised_in (Learned p v ∷ older) = promised_in older

-- the learned values, from position 0 on
abbrev pub learned_in : {V : Type 0} → List (Fact V) → List V
learned_in [] = []
learned_in (Promised b ∷ older) = learned_in older
learned_in (Voted p b v ∷ older) = learned_in older
learned_in (Learned p v ∷ older) = learned_in older ++ v ∷ []

-- what was last accepted at the position f
abbrev pub accepted_in : {V : Type 0} → ℕ → List (Fact V) → Option (Ballot × V)
accepted_in f [] = None
accepted_in f (Promised b ∷ older) = accepted_in f older
accepted_in f (Voted p b v ∷ older) = if p == f then Some (b, v) else accepted_in f older
accepted_in f (Learned p v ∷ older) = accepted_in f older

-- the log that these facts leave: nobody is noted, and it doesn't lead
abbrev pub recover : {V : Type 0} → ℕ → List (Fact V) → LogState V
recover u facts = record {
  promised = promised_in facts;
  accepted = accepted_in (length (learned_in facts)) facts;
  learned = learned_in facts;
  seen = replicate (2 * u + 1) None;
  leader = None;
}
