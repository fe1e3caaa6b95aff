-- A store as columns: one for each class of keys, sorted by id.
use Rattle.std.specs.Prelude.{◌≡◌, ◌≢◌, ℕ, ◌+◌, ◌<◌, ◌≤◌, ◌==◌, List, [], ◌∷◌, ◌++◌, map, length, if◌then◌else◌}
use Rattle.std.specs.Prelude.{slice_index_or, Option, Some, None, vec_capacity, refl}
use Rattle.std.specs.declared.vec.Vec.{Vec}
use Rattle.std.specs.declared.alloc.Global.{Global}
use Rattle.aeg_base.specs.declared.names.Key.{Key}
use Rattle.aeg_base.specs.Numbers.{checked}
use Rattle.aeg_base.specs.Store.{Store, key_cmp, empty}

-- an id, then its value
abbrev pub Pairs : Type 0
Pairs = List (ℕ × ℕ)

-- the value of the first pair that has the id
abbrev pub found : Pairs → ℕ → Option ℕ
found [] id = None
found ((k, v) ∷ rest) id = if id == k then Some v else found rest id

-- the id of the pair at place i
abbrev pub id_at : Pairs → ℕ → ℕ
id_at l i = let pair = slice_index_or l i (0, 0) in pair.0

-- the ids rise, so none comes twice
abbrev pub IsRising : Pairs → Type 0
IsRising l = (i j : ℕ) → i < j → j < length l → id_at l i < id_at l j

-- the pair at place i has the id
pub record IsAt (l : Pairs) (id i : ℕ) : Type 0 where
  pub in_range : i < length l
  pub has_id : id_at l i ≡ id

-- the id would go at place i: smaller ids before it, and greater ids from it on
pub record IsGapFor (l : Pairs) (id i : ℕ) : Type 0 where
  pub in_range : i ≤ length l
  pub smaller_before : (j : ℕ) → j < i → id_at l j < id
  pub greater_after : (j : ℕ) → i ≤ j → j < length l → id < id_at l j

-- sorted, and no value is 0
pub record IsColumn (l : Pairs) : Type 0 where
  pub rising : IsRising l
  pub positive : (id : ℕ) → found l id ≢ Some 0

-- a column's pairs, with keys of its class
abbrev pub keyed : ℕ → Pairs → List (Key × ℕ)
keyed class [] = []
keyed class (p ∷ ps) = (record { class = class; id = p.0 }, p.1) ∷ keyed class ps

-- the pairs of the columns from this class on, by class, then id
abbrev pub all_pairs : ℕ → List Pairs → List (Key × ℕ)
all_pairs class [] = []
all_pairs class (column ∷ columns) = keyed class column ++ all_pairs (class + 1) columns

abbrev pub lists_of : List (Vec (ℕ × ℕ) Global) → List Pairs
lists_of vectors = map (λ v. v.items) vectors

abbrev pub AreEmpty : List (Vec (ℕ × ℕ) Global) → Type 0
AreEmpty [] = Unit {0}
AreEmpty (v ∷ vs) = (v.items ≡ []) × AreEmpty vs

abbrev pub count_of : List Pairs → ℕ
count_of [] = 0
count_of (column ∷ columns) = length column + count_of columns

abbrev pub map_of : List (Vec (ℕ × ℕ) Global) → Store
map_of vectors = checked {R = key_cmp} (all_pairs 0 (lists_of vectors)) _ refl empty

-- eight columns, each with room for all pairs
pub record AreColumns (vectors : List (Vec (ℕ × ℕ) Global)) (count room : ℕ) : Type 0 where
  pub eight : length vectors ≡ 8
  pub columns : (class : ℕ) → IsColumn (slice_index_or (lists_of vectors) class [])
  pub roomy : (class : ℕ) → class < 8 → (v : Vec (ℕ × ℕ) Global) → room ≤ vec_capacity (slice_index_or vectors class v)
  pub counted : count ≡ count_of (lists_of vectors)
  pub within : count ≤ room
