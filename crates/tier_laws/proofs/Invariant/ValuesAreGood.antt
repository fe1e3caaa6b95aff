-- What each value that was voted for rests on.
use Rattle.std.proofs.Common.{◌≡◌, ℕ, true, false, List, Some}
use Rattle.std.specs.Prelude.{slice_get}
use Rattle.aeg_base.specs.declared.names.Tier.{Tier}
use Rattle.aeg_base.specs.declared.names.Tier.TheVariants.{Mid as MidTier, Inv, Pay}
use Rattle.log_values.specs.declared.any_value.AnyValue.{AnyValue}
use Rattle.log_values.specs.declared.any_value.AnyValue.TheVariants.{Back as OfBack, Mid as OfMid}
use Rattle.log_values.specs.declared.back_value.BackValue.TheVariants.{Call as Called, Settle as Settled}
use Rattle.log_values.specs.declared.entry.Entry.{Entry}
use Rattle.log_values.specs.declared.mid_value.MidValue.TheVariants.{Batch, Verdict as Decided}
use Rattle.round_model.specs.Lists.{half, odd}
use Rattle.run_model.specs.World.{Config}
use Rattle.tier_laws.proofs.Invariant.Past.{Past}
use Rattle.tier_laws.proofs.Invariant.FloorsAreHeld.{FloorOk}
use Rattle.tier_laws.proofs.Invariant.VerdictsHaveCauses.{VerdictOk}

abbrev pub Submitted : {B : Type 0} → Past B → Entry → Type 0
Submitted P e = (i : ℕ) × (slice_get P.submitted i ≡ Some e)

abbrev pub BatchOk : {B : Type 0} → Past B → List Entry → Type 0
BatchOk P es = (i : ℕ) (e : Entry) → slice_get es i ≡ Some e → Submitted P e

abbrev pub MidOk : {B : Type 0} → Config B → Past B → ℕ → AnyValue → Type 0
MidOk c P p (OfMid (Batch es)) = (odd p ≡ false) × BatchOk P es
MidOk c P p (OfBack v) = ⊥
MidOk c P p (OfMid (Decided v)) = (odd p ≡ true) × VerdictOk c P (half p) v

abbrev pub BackOk : {B : Type 0} → Config B → Past B → Tier → ℕ → AnyValue → Type 0
BackOk c P t p (OfBack (Called n text)) = P.server.calls t n ≡ Some text
BackOk c P t p (OfMid v) = ⊥
BackOk c P t p (OfBack (Settled g)) = FloorOk c P t g

-- a value that a node of the tier votes for
abbrev pub ValueOk : {B : Type 0} → Config B → Past B → Tier → ℕ → AnyValue → Type 0
ValueOk c P MidTier p v = MidOk c P p v
ValueOk c P Inv p v = BackOk c P Inv p v
ValueOk c P Pay p v = BackOk c P Pay p v
