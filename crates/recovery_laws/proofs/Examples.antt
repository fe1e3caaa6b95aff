-- A small list of facts and its snapshot, computed; and why nothing may be accepted ahead.
use Rattle.std.proofs.Common.{◌≡◌, ℕ, List, [], ◌∷◌, refl, Some, None}
use Rattle.aeg_base.specs.declared.names.Ballot.{Ballot}
use Rattle.aeg_base.specs.declared.names.Tier.TheVariants.{Inv, Pay}
use Rattle.log_model.specs.Recover.{recover}
use Rattle.log_values.specs.declared.any_value.AnyValue.{AnyValue}
use Rattle.log_values.specs.declared.any_value.AnyValue.TheVariants.{Back}
use Rattle.log_values.specs.declared.back_value.BackValue.TheVariants.{Settle}
use Rattle.log_values.specs.declared.fact.Fact.{Fact}
use Rattle.log_values.specs.declared.fact.Fact.TheVariants.{Promised, Accepted, Learned, Held}
use Rattle.tier_model.specs.Moves.{log_facts}
use Rattle.recovery_laws.specs.Snapshots.{snapshot}

abbrev ballot : ℕ → Ballot
ballot counter = record { counter = counter; node = 1 }

abbrev value : ℕ → AnyValue
value floor = Back (Settle floor)

-- position 0 was learned by the first ballot; at position 1 two values were accepted, and the answer 4 was noted twice
abbrev facts : List Fact
facts = Held Inv 4 9 ∷ Accepted 1 (ballot 3) (value 8) ∷ Promised (ballot 3) ∷ Held Pay 1 0 ∷ Held Inv 4 5 ∷ Accepted 1 (ballot 2) (value 7)
    ∷ Learned 0 (value 6) ∷ Held Inv 2 1 ∷ Accepted 0 (ballot 2) (value 6) ∷ Promised (ballot 2) ∷ []

its_snapshot : snapshot facts
    ≡ Promised (ballot 3) ∷ Accepted 1 (ballot 3) (value 8) ∷ Learned 0 (value 6) ∷ Held Pay 1 0 ∷ Held Inv 4 5 ∷ Held Inv 2 1 ∷ []
its_snapshot = refl

of_no_facts : snapshot [] ≡ []
of_no_facts = refl

-- what was accepted at position 1 before position 0 was learned is in no snapshot, so it is lost once that is learned
abbrev ahead : List Fact
ahead = Accepted 1 (ballot 2) (value 7) ∷ []

found_by_all : (recover 1 (log_facts (Learned 0 (value 6) ∷ ahead))).accepted ≡ Some (ballot 2, value 7)
found_by_all = refl

lost_by_the_cut : (recover 1 (log_facts (Learned 0 (value 6) ∷ snapshot ahead))).accepted ≡ None
lost_by_the_cut = refl
