-- The test that two tiers are one.
use Rattle.std.proofs.Common.{◌≡◌, true, refl}
use Rattle.aeg_base.specs.declared.names.Tier.{Tier}
use Rattle.aeg_base.specs.declared.names.Tier.TheVariants.{Mid, Inv, Pay}
use Rattle.server_model.specs.Server.{same_tier}

pub tier_same : (t : Tier) → same_tier t t ≡ true
tier_same Mid = refl
tier_same Inv = refl
tier_same Pay = refl

pub tier_eq : (t v : Tier) → same_tier t v ≡ true → t ≡ v
tier_eq Mid Mid e = refl
tier_eq Mid Inv e = absurd (cc)
tier_eq Mid Pay e = absurd (cc)
tier_eq Inv Mid e = absurd (cc)
tier_eq Inv Inv e = refl
tier_eq Inv Pay e = absurd (cc)
tier_eq Pay Mid e = absurd (cc)
tier_eq Pay Inv e = absurd (cc)
tier_eq Pay Pay e = refl
