-- What differs between two stores.
use Rattle.std.specs.Prelude.{ℕ, ◌==◌, List, [], ◌∷◌, if◌then◌else◌}
use Rattle.std.specs.FinMap.Entries.{put}
use Rattle.aeg_base.specs.Store.{Store, key_cmp, value_at, pairs_of}
use Rattle.aeg_base.specs.declared.names.Key.{Key}

-- to these pairs, those keys of a list whose values differ between the stores, with their values in t, each in its place
abbrev pub changed_among : Store → Store → List (Key × ℕ) → List (Key × ℕ) → List (Key × ℕ)
changed_among s t [] pairs = pairs
changed_among s t (e ∷ es) pairs =
    changed_among s t es (if value_at s e.0 == value_at t e.0 then pairs else put key_cmp e.0 (value_at t e.0) pairs)

-- the keys whose values differ, sorted, with their values in t: 0 where the key went
abbrev pub changes : Store → Store → List (Key × ℕ)
changes s t = changed_among s t (pairs_of t) (changed_among s t (pairs_of s) [])
