-- How a device fares by the definition of worlds.
use Rattle.std.proofs.Common.{◌≡◌, ℕ, List, [], ◌∷◌, refl, ap, cond, length, arith}
use Rattle.std.specs.Prelude.{nat_lt}
use Rattle.aeg_base.specs.declared.limits.TheConstants.{JOURNAL_BYTES}
use Rattle.fact_journal.specs.Calls as journals
use Rattle.log_model.specs.Nodes.Device.{CutDrop}
use Rattle.log_values.specs.Records.{record_text}
use Rattle.log_values.specs.declared.fact.Fact.{Fact}
use Rattle.run_model.specs.World.{Config, device_of, fate, is_past, journal_length}
use Rattle.run_model.specs.declared.trace.Fared.{Fared}
use Rattle.tier_nodes.specs.Arming.{fate_of}
use Rattle.tier_nodes.specs.Standing.{journal_of}

long_is : (bytes : List Fact → ℕ) (rs : List (List Fact)) → ((r : List Fact) → bytes r ≡ length (record_text r)) → journal_length bytes rs ≡ journal_of rs
long_is bytes [] e = refl
long_is bytes (r ∷ rs) e = let h = long_is bytes rs e in omega (arith, h, e r)

past_is : {B : Type 0} (c : Config B) (rs : List (List Fact)) (facts : List Fact) → ((r : List Fact) → c.record_length r ≡ length (record_text r))
    → is_past c rs facts ≡ journals.is_past (journal_of rs) facts
past_is c rs [] e = refl
past_is c rs (f ∷ fs) e = ap (nat_lt JOURNAL_BYTES) (let h = long_is c.record_length rs e in omega (arith, h, e (f ∷ fs)))

pub fate_is : {B : Type 0} (c : Config B) (fared : Fared) (rs : List (List Fact)) (facts : List Fact)
    → ((r : List Fact) → c.record_length r ≡ length (record_text r)) → fate c fared rs facts ≡ fate_of fared rs facts
fate_is c fared rs facts e = ap (λ b. cond b CutDrop (device_of fared)) (past_is c rs facts e)
