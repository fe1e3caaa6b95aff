-- What a backend node offers can be carried by its tier's log.
use Rattle.std.proofs.Common.{ℕ, List, refl, Option, Some, None}
use Rattle.std.specs.Prelude.{IfSome}
use Rattle.aeg_base.specs.declared.names.Tier.{Tier}
use Rattle.aeg_base.specs.declared.names.Tier.TheVariants.{Mid, Inv, Pay}
use Rattle.svc_api.specs.Plan.{IsBackend}
use Rattle.log_model.specs.Ranges.{IsOwnIn}
use Rattle.log_values.specs.declared.any_value.AnyValue.TheVariants.{Back as OfBack}
use Rattle.log_values.specs.declared.back_value.BackValue.{BackValue}
use Rattle.log_values.specs.declared.back_value.BackValue.TheVariants.{Call, Settle}
use Rattle.log_values.specs.Values.{FitsBack}
use Rattle.frames.specs.LogMessages.{IsCarried}
use Rattle.tier_model.specs.BackRows.{own_by}

back_carried : (t : Tier) (p : ℕ) (v : BackValue) → IsBackend t → FitsBack v → IsCarried t p (OfBack v)
back_carried Mid p v b f = absurd b
back_carried Inv p v b f = (f, refl)
back_carried Pay p v b f = (f, refl)

pub own_carried : (t : Tier) (p : ℕ) (o : Option (ℕ × List ℕ)) (g : Option ℕ) → IsBackend t → IfSome o (λ call. FitsBack (Call call.0 call.1))
    → IfSome g (λ floor. FitsBack (Settle floor)) → IsOwnIn (IsCarried t) p (own_by o g)
own_carried t p None None b c f = tt
own_carried t p None (Some floor) b c f = back_carried t p (Settle floor) b f
own_carried t p (Some call) floor b c f = back_carried t p (Call call.0 call.1) b c
