-- Finite maps from keys to numbers, without zeros: a key that isn't there has 0. They compute, and maps that answer
-- alike are equal.
use Rattle.std.specs.Prelude.{◌≡◌, ℕ, ◌==◌, ◌&&◌, Bool, true, false, not, T, List, [], ◌∷◌, if◌then◌else◌, unwrap_or, refl}
use Rattle.std.specs.Ordering.{eq_by_cmp}
use Rattle.std.specs.Coded.{Coded, coded_list, coded×, coded_ℕ}
use Rattle.std.specs.declared.cmp.Ordering.{Ordering}
use Rattle.std.specs.FinMap.Entries.{find, put, where_key, is_sorted}
use mathlib.Core.Path.{sym, subst}
use mathlib.Core.HLevel.{Σ_prop_path}
use lib.Dec.{T_prop}
use base.Stored.{coded_via}

abbrev pub no_zeros : {K : Type 0} → List (K × ℕ) → Bool
no_zeros [] = true
no_zeros (e ∷ es) = not (e.1 == 0) && no_zeros es

-- the keys rise in the order R, and no number is 0
abbrev pub is_canonical : {K : Type 0} → (K → K → Ordering) → List (K × ℕ) → Bool
is_canonical R es = is_sorted R es && no_zeros es

pub record Numbers {K : Type 0} (R : K → K → Ordering) : Type 0 where
  pub entries : List (K × ℕ)
  pub canonical : T (is_canonical R entries)

pub same_entries : {K : Type 0} {R : K → K → Ordering} (m n : Numbers R) → m.entries ≡ n.entries → m ≡ n
same_entries {K} {R} m n e =
    let pairs : ◌≡◌ {A = (es : List (K × ℕ)) × T (is_canonical R es)} (m.entries, m.canonical) (n.entries, n.canonical) = Σ_prop_path (λ es. T_prop _) e in
    λ i. record { entries = (pairs i).0; canonical = (pairs i).1 }

abbrev pub numbers_code : {K : Type 0} {R : K → K → Ordering} → Coded K → Coded (Numbers R)
numbers_code {K} {R} key = coded_via (coded_list (coded× key coded_ℕ)) (λ (m : Numbers R). m.entries) same_entries

abbrev pub no_numbers : {K : Type 0} {R : K → K → Ordering} → Numbers R
no_numbers = record { entries = []; canonical = tt }

-- the map of these entries, or else the map that is given
unfoldable pub checked : {K : Type 0} {R : K → K → Ordering} (es : List (K × ℕ)) (b : Bool) → is_canonical R es ≡ b → Numbers R → Numbers R
checked es true e m = record { entries = es; canonical = subst T (sym e) tt }
checked es false e m = m

-- the number of a key
unfoldable pub number_at : {K : Type 0} {R : K → K → Ordering} → Numbers R → K → ℕ
number_at {K} {R} m k = unwrap_or (find R k m.entries) 0

-- the entries with this number at the key; 0 takes the key out
abbrev pub entries_with : {K : Type 0} → (K → K → Ordering) → List (K × ℕ) → K → ℕ → List (K × ℕ)
entries_with R es k n = if n == 0 then where_key R (λ q. not (eq_by_cmp R k q)) es else put R k n es

-- the map with this number at the key
unfoldable pub with_number : {K : Type 0} {R : K → K → Ordering} → Numbers R → K → ℕ → Numbers R
with_number {K} {R} m k n = checked (entries_with R m.entries k n) _ refl m
