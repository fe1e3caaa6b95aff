-- What passes a test is there.
use Rattle.std.proofs.Common.{◌≡◌, Bool, true, false, refl, Option, Some, None}

-- what passes a test that nothing doesn't pass
pub passes : {A : Type 0} (test : Option A → Bool) (o : Option A) → test None ≡ false → test o ≡ true → (a : A) × (o ≡ Some a) × (test (Some a) ≡ true)
passes test None none e = absurd (cc)
passes test (Some a) none e = (a, refl, e)
