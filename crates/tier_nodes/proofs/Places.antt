-- A node at its place in a list.
use Rattle.std.proofs.Common.{◌≡◌, ℕ, ◌<◌, List, length, refl, ap, subst, get_or}
use Rattle.std.proofs.lemmas.Option.{slice_get_read}
use Rattle.std.specs.Prelude.{slice_set}
use Rattle.tier_nodes.specs.Seats.{ChangesAt}

-- what was read there and written back changed there alone
pub changes_at : {A : Type 0} (xs : List A) (x y : ℕ) (v m : A) (P : A → A → Type 0) → x < length xs → y ≡ x → v ≡ get_or xs y v → P v m
    → ChangesAt xs (slice_set xs y m) x P
changes_at xs x y v m P l e r p = (
  v,
  m,
  slice_get_read xs (length xs) x v refl l (subst (λ z. v ≡ get_or xs z v) e r),
  ap (λ z. slice_set xs z m) e,
  p,
)
