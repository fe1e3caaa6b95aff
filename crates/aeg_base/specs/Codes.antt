-- Names as data.
use Rattle.std.specs.Prelude.{ℕ, refl}
use Rattle.std.specs.Coded.{Coded, code_by, coded×, coded_ℕ}
use Rattle.aeg_base.specs.declared.names.Key.{Key}
use Rattle.aeg_base.specs.declared.names.ReqId.{ReqId}

abbrev pub key_code : Coded Key
key_code = code_by (ℕ × ℕ) (coded× coded_ℕ coded_ℕ) (λ k. (k.class, k.id)) (λ p. record { class = p.0; id = p.1 }) (λ _. refl)

abbrev pub request_code : Coded ReqId
request_code = code_by (ℕ × ℕ) (coded× coded_ℕ coded_ℕ) (λ r. (r.client, r.seq)) (λ p. record { client = p.0; seq = p.1 }) (λ _. refl)
