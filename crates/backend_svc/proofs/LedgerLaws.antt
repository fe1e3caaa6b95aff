-- The amounts of a list of entries are those that a look-up finds.
use Rattle.std.proofs.Common.{◌≡◌, ℕ, List, [], ◌∷◌, Bool, true, false, cond, Option, Some, unwrap_or, if◌then◌else◌, refl, sym, ap, ◌∙◌}
use Rattle.std.specs.Ordering.{nat_cmp, eq_by_cmp}
use Rattle.std.specs.Cmp.{nat_cmp_total, eq_by_cmp_equiv}
use Rattle.std.specs.FinMap.{nat_cmp-IsAntisymmetric}
use Rattle.std.specs.Map.{lookup}
use Rattle.aeg_base.specs.Numbers.{number_at, with_number}
use Rattle.aeg_base.proofs.NumberLaws.{number_at-with_number, number_at-no_numbers, same_numbers}
use Rattle.backend_svc.specs.Ledger.{amounts_of}

chosen : (b : Bool) (x y : ℕ) (o : Option ℕ) → y ≡ unwrap_or o 0 → (if b then x else y) ≡ unwrap_or (cond b (Some x) o) 0
chosen true x y o e = refl
chosen false x y o e = e

pub amount_at-amounts_of : (es : List (ℕ × ℕ)) (q : ℕ) → number_at (amounts_of es) q ≡ unwrap_or (lookup (λ x. eq_by_cmp nat_cmp q x) es) 0
amount_at-amounts_of [] q = number_at-no_numbers nat_cmp q
amount_at-amounts_of (e ∷ es) q =
    number_at-with_number nat_cmp_total (amounts_of es) e.0 e.1 q
    ∙ chosen (eq_by_cmp nat_cmp q e.0) e.1 (number_at (amounts_of es) q) (lookup (λ x. eq_by_cmp nat_cmp q x) es) (amount_at-amounts_of es q)

-- entries that answer as others do but at one key are the others with that key's amount
pub amounts_of-updated : (old new : List (ℕ × ℕ)) (k v : ℕ)
    → ((q : ℕ) → lookup (λ x. eq_by_cmp nat_cmp q x) new
    ≡ cond (eq_by_cmp nat_cmp k q) (Some v) (lookup (λ x. eq_by_cmp nat_cmp q x) old))
    → amounts_of new ≡ with_number (amounts_of old) k v
amounts_of-updated old new k v updates = same_numbers nat_cmp_total nat_cmp-IsAntisymmetric (amounts_of new) (with_number (amounts_of old) k v) (λ q.
    amount_at-amounts_of new q
    ∙ ap (λ o. unwrap_or o 0) (updates q)
    ∙ sym (chosen (eq_by_cmp nat_cmp k q) v (number_at (amounts_of old) q) (lookup (λ x. eq_by_cmp nat_cmp q x) old) (amount_at-amounts_of old q))
    ∙ ap (λ b. if b then v else number_at (amounts_of old) q) ((eq_by_cmp_equiv nat_cmp_total).symm k q)
    ∙ sym (number_at-with_number nat_cmp_total (amounts_of old) k v q))
