-- A row that doesn't hold is passed over.
use Rattle.std.proofs.Common.{◌≡◌, ℕ, ◌<◌, Bool, false, List, [], ◌∷◌, length, drop, get_or, refl, ap, cond, zero, suc, Some, arith}
use Rattle.rule_table.specs.Rows.{first_row}

pub first_row-step : (ns : List ℕ) (hs : List Bool) (i : ℕ) (d : Bool) → i < length hs → get_or hs i d ≡ false
    → first_row (drop i ns) (drop i hs) ≡ first_row (drop (suc i) ns) (drop (suc i) hs)
first_row-step [] [] i d within is = absurd (omega arith)
first_row-step [] (h ∷ hs) zero d within is = refl
first_row-step [] (h ∷ hs) (suc i) d within is = refl
first_row-step (n ∷ ns) [] i d within is = absurd (omega arith)
first_row-step (n ∷ ns) (h ∷ hs) zero d within is = ap (λ b. cond b (Some n) (first_row ns hs)) is
first_row-step (n ∷ ns) (h ∷ hs) (suc i) d within is = first_row-step ns hs i d (omega arith) is
