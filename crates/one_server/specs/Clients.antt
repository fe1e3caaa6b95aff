-- What the server keeps of its clients, as data.
use Rattle.std.specs.Prelude.{ℕ, List, Option, refl}
use Rattle.std.specs.Coded.{Coded, code_by, coded×, coded_list, coded_option, coded_ℕ}
use Rattle.server_model.specs.Codes.{progress_code}
use Rattle.server_model.specs.declared.progress.Progress.{Progress}

pub record Kept : Type 0 where
  pub last : List ℕ
  pub progress : List (Option Progress)

abbrev pub kept_code : Coded Kept
kept_code = code_by (List ℕ × List (Option Progress))
    (coded× (coded_list coded_ℕ) (coded_list (coded_option progress_code))) (λ k. (k.last, k.progress))
    (λ p. record { last = p.0; progress = p.1 }) (λ _. refl)
