-- The pairs of a store rise by their keys.
use Rattle.std.proofs.Common.{◌≡◌, ℕ, Bool, true, false, cond, T, List, [], ◌∷◌, refl, Some, None}
use Rattle.std.specs.Prelude.{nat_lt, ◌==◌, ◌&&◌, ◌||◌}
use Rattle.std.proofs.lemmas.Bool.{and_from}
use Rattle.std.specs.Ordering.{ordering_then, is_lt}
use Rattle.std.specs.declared.cmp.Ordering.TheVariants.{Less, Equal, Greater}
use Rattle.std.specs.FinMap.Entries.{is_sorted, below_all}
use Rattle.aeg_base.specs.Store.{key_cmp}
use Rattle.aeg_base.specs.declared.names.Key.{Key}
use Rattle.aeg_base.proofs.NumberLaws.{first, second}
use Rattle.log_values.specs.Outcomes.{is_key_below, rises}

pub below_is : (a b : Key) → T (is_lt (key_cmp a b)) → is_key_below a b ≡ true
below_is a b h = at (nat_lt a.class b.class) (a.class == b.class) (nat_lt a.id b.id) (a.id == b.id) h
  where
    at : (c d e f : Bool) → T (is_lt (ordering_then (cond c Less (cond d Equal Greater)) (cond e Less (cond f Equal Greater)))) → (c || (d && e)) ≡ true
    at true d e f h = refl
    at false true true f h = refl
    at false true false true h = absurd h
    at false true false false h = absurd h
    at false false e f h = absurd h

rises_after : (last : Key) (es : List (Key × ℕ)) → T (below_all key_cmp last es) → T (is_sorted key_cmp es) → rises (Some last) es ≡ true
rises_after last [] b s = refl
rises_after last (e ∷ es) b s =
    and_from (is_key_below last e.0) (rises (Some e.0) es) (below_is last e.0 (first (is_lt (key_cmp last e.0)) (below_all key_cmp last es) b))
    (rises_after e.0 es (first (below_all key_cmp e.0 es) (is_sorted key_cmp es) s) (second (below_all key_cmp e.0 es) (is_sorted key_cmp es) s))

pub rises_sorted : (es : List (Key × ℕ)) → T (is_sorted key_cmp es) → rises None es ≡ true
rises_sorted [] s = refl
rises_sorted (e ∷ es) s = rises_after e.0 es (first (below_all key_cmp e.0 es) (is_sorted key_cmp es) s)
    (second (below_all key_cmp e.0 es) (is_sorted key_cmp es) s)
