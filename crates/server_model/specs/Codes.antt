-- The server's state as data.
use Rattle.std.specs.Prelude.{◌≡◌, ℕ, zero, suc, List, Option, refl}
use Rattle.std.specs.Coded.{Coded, code_by, coded×, coded_list, coded_option, coded_ℕ}
use Rattle.aeg_base.specs.Codes.{request_code}
use Rattle.aeg_base.specs.Store.{Store, store_code}
use Rattle.aeg_base.specs.declared.names.ReqId.{ReqId}
use Rattle.aeg_base.specs.declared.names.Tier.{Tier}
use Rattle.aeg_base.specs.declared.names.Tier.TheVariants.{Mid, Inv, Pay}
use Rattle.server_model.specs.Server.{Server, Progress}

abbrev pub tier_index : Tier → ℕ
tier_index Mid = 0
tier_index Inv = 1
tier_index Pay = 2

abbrev pub tier_at : ℕ → Tier
tier_at zero = Mid
tier_at (suc zero) = Inv
tier_at (suc (suc n)) = Pay

pub tier_again : (tier : Tier) → tier_at (tier_index tier) ≡ tier
tier_again Mid = refl
tier_again Inv = refl
tier_again Pay = refl

abbrev pub tier_code : Coded Tier
tier_code = code_by ℕ coded_ℕ tier_index tier_at tier_again

abbrev pub item_code : {T : Type 0} → Coded T → Coded (Tier × ℕ × T)
item_code {T} value = code_by (Tier × (ℕ × T)) (coded× tier_code (coded× coded_ℕ value)) (λ x. (x.0, (x.1, x.2))) (λ p. (p.0, p.1.0, p.1.1)) (λ _. refl)

abbrev pub text_code : Coded (List ℕ)
text_code = coded_list coded_ℕ

abbrev pub progress_code : Coded Progress
progress_code = code_by (ℕ × (List ℕ × (ℕ × (Tier × ℕ)))) (coded× coded_ℕ (coded× text_code (coded× coded_ℕ (coded× tier_code coded_ℕ))))
    (λ p. (p.seq, (p.body, (p.stage, (p.tier, p.number)))))
    (λ p. record { seq = p.0; body = p.1.0; stage = p.1.1.0; tier = p.1.1.1.0; number = p.1.1.1.1 }) (λ _. refl)

-- the clients' part, the calls' part, and the backends
abbrev pub Parts : Type 0 → Type 0
Parts B = (Store × (List ℕ × List (Option Progress))) × ((List (Tier × ℕ × List ℕ) × List (Tier × ℕ × ℕ)) × ((B × B) × List (ReqId × List ℕ)))

abbrev pub server_code : {B : Type 0} → Coded B → Coded (Server B)
server_code {B} backend = code_by (Parts B)
    (coded× (coded× store_code (coded× (coded_list coded_ℕ) (coded_list (coded_option progress_code))))
    (coded× (coded× (coded_list (item_code text_code)) (coded_list (item_code coded_ℕ)))
    (coded× (coded× backend backend) (coded_list (coded× request_code text_code)))))
    (λ s. ((s.store, (s.last, s.progress)), ((s.calls, s.served), ((s.inventory, s.payment), s.replies))))
    (λ p. record {
      store = p.0.0;
      last = p.0.1.0;
      progress = p.0.1.1;
      calls = p.1.0.0;
      served = p.1.0.1;
      inventory = p.1.1.0.0;
      payment = p.1.1.0.1;
      replies = p.1.1.1;
    })
    (λ _. refl)
