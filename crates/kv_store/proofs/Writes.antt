-- What a write in one column makes of the store.
use Rattle.std.proofs.Common.{◌≡◌, ◌≢◌, ℕ, ◌+◌, ◌<◌, ◌≤◌, ◌==◌, Bool, true, false, cond, ◌&&◌, List, [], ◌∷◌, ◌++◌}
use Rattle.std.proofs.Common.{drop, append_assoc, length, get_or, set, if◌then◌else◌, Option, Some, None, unwrap_or}
use Rattle.std.proofs.Common.{refl, sym, ap, subst, ◌∙◌, inl, inr, ◌⊎◌, arith, zero, suc, length-set}
use Rattle.std.proofs.lemmas.Bool.Decides.{eqb_tells}
use Rattle.std.proofs.lemmas.List.{get_or-set_same, get_or-set_other}
use Rattle.std.specs.Prelude.{vec_capacity}
use Rattle.std.specs.declared.vec.Vec.{Vec}
use Rattle.std.specs.declared.alloc.Global.{Global}
use Rattle.aeg_base.specs.declared.names.Key.{Key}
use Rattle.std.specs.FinMap.Entries.{find}
use Rattle.aeg_base.specs.Store.{key_cmp, same_key, written, empty}
use Rattle.aeg_base.proofs.StoreLaws.{value_at-written, value_at-empty, same_store}
use Rattle.kv_store.specs.Columns.{keyed, all_pairs, AreEmpty, Pairs, found, IsRising, IsColumn, AreColumns, map_of, lists_of, count_of}
use Rattle.kv_store.proofs.Flat.{key, find-all, entries-store_of, store_of, value_at-store_of, size-store_of}
use Rattle.kv_store.proofs.Sizes.{size-new}
use Rattle.kv_store.specs.Stores.{size}

-- after a write in one column, which finds o at the id and elsewhere what it found
pub record Writes (l l' : Pairs) (id : ℕ) (o : Option ℕ) : Type 0 where
  pub column : IsColumn l'
  pub finds : (q : ℕ) → found l' q ≡ (if q == id then o else found l q)

pub columns_after : (columns : List Pairs) (class : ℕ) (l' : Pairs) → ((c : ℕ) → IsColumn (get_or columns c []))
    → class < length columns → IsColumn l' → (c : ℕ) → IsColumn (get_or (set columns class l') c [])
columns_after columns class l' h lt new c = at (c == class) (eqb_tells c class)
  where
    at : (b : Bool) → ((b ≡ true) × (c ≡ class)) ⊎ ((b ≡ false) × (c ≢ class)) → IsColumn (get_or (set columns class l') c [])
    at true (inl z) = subst IsColumn (sym (ap (λ n. get_or (set columns class l') n []) z.1 ∙ get_or-set_same columns class l' [] lt)) new
    at true (inr z) = cc
    at false (inl z) = cc
    at false (inr z) = subst IsColumn (sym (get_or-set_other columns class c l' [] z.1)) (h c)

finds_after : (columns : List Pairs) (class id : ℕ) (l' : Pairs) (o : Option ℕ) → class < length columns → Writes (get_or columns class []) l' id o
    → (q : Key) → found (get_or (set columns class l') q.class []) q.id
    ≡ (if (q.class == class) && (q.id == id) then o else found (get_or columns q.class []) q.id)
finds_after columns class id l' o lt w q = at (q.class == class) (eqb_tells q.class class)
  where
    at : (b : Bool) → ((b ≡ true) × (q.class ≡ class)) ⊎ ((b ≡ false) × (q.class ≢ class))
        → found (get_or (set columns class l') q.class []) q.id
        ≡ (if b && (q.id == id) then o else found (get_or columns q.class []) q.id)
    at true (inl z) =
        ap (λ l. found l q.id) (ap (λ n. get_or (set columns class l') n []) z.1 ∙ get_or-set_same columns class l' [] lt) ∙ w.finds q.id
        ∙ ap (λ n. if q.id == id then o else found (get_or columns n []) q.id) (sym z.1)
    at true (inr z) = cc
    at false (inl z) = cc
    at false (inr z) = ap (λ l. found l q.id) (get_or-set_other columns class q.class l' [] z.1)

unwrap-cond : (b : Bool) (o p : Option ℕ) → unwrap_or (cond b o p) 0 ≡ cond b (unwrap_or o 0) (unwrap_or p 0)
unwrap-cond true o p = refl
unwrap-cond false o p = refl

pub written_after : (columns : List Pairs) (k : Key) (l' : Pairs) (o : Option ℕ)
    → ((c : ℕ) → IsColumn (get_or columns c [])) → k.class < length columns → Writes (get_or columns k.class []) l' k.id o
    → store_of (set columns k.class l') ≡ written (store_of columns) k (unwrap_or o 0)
written_after columns k l' o h lt w = same_store (store_of (set columns k.class l')) (written (store_of columns) k (unwrap_or o 0)) (λ q.
    value_at-store_of (set columns k.class l') (columns_after columns k.class l' h lt w.column) q
    ∙ ap (λ o. unwrap_or o 0) (finds_after columns k.class k.id l' o lt w q)
    ∙ unwrap-cond (same_key q k) o (found (get_or columns q.class []) q.id)
    ∙ ap (cond (same_key q k) (unwrap_or o 0)) (sym (value_at-store_of columns h q))
    ∙ sym (value_at-written (store_of columns) k (unwrap_or o 0) q))

pub count_after : (columns : List Pairs) (class : ℕ) (l' : Pairs) → class < length columns
    → count_of (set columns class l') + length (get_or columns class []) ≡ count_of columns + length l'
count_after [] class l' lt = absurd (omega arith)
count_after (l ∷ ls) zero l' lt = omega arith
count_after (l ∷ ls) (suc class) l' lt = let h = count_after ls class l' (omega arith) in omega arith

pub lists-set : (vectors : List (Vec (ℕ × ℕ) Global)) (class : ℕ) (v : Vec (ℕ × ℕ) Global)
    → lists_of (set vectors class v) ≡ set (lists_of vectors) class v.items
lists-set [] class v = refl
lists-set (x ∷ xs) zero v = refl
lists-set (x ∷ xs) (suc class) v = ap (λ ls. x.items ∷ ls) (lists-set xs class v)

pub length-lists : (vectors : List (Vec (ℕ × ℕ) Global)) → length (lists_of vectors) ≡ length vectors
length-lists [] = refl
length-lists (x ∷ xs) = let h = length-lists xs in omega arith

pub get-lists : (vectors : List (Vec (ℕ × ℕ) Global)) (class : ℕ) (v : Vec (ℕ × ℕ) Global) → class < length vectors
    → get_or (lists_of vectors) class [] ≡ (get_or vectors class v).items
get-lists [] class v lt = absurd (omega arith)
get-lists (x ∷ xs) zero v lt = refl
get-lists (x ∷ xs) (suc class) v lt = get-lists xs class v (omega arith)

count_most : (ls : List Pairs) (class : ℕ) → length (get_or ls class []) ≤ count_of ls
count_most [] class = omega arith
count_most (l ∷ ls) zero = omega arith
count_most (l ∷ ls) (suc class) = let h = count_most ls class in omega arith

-- what is written is no 0
positive_after : (l l' : Pairs) (id : ℕ) (o : Option ℕ) → o ≢ Some 0 → ((q : ℕ) → found l q ≢ Some 0)
    → ((q : ℕ) → found l' q ≡ (if q == id then o else found l q)) → (q : ℕ) → found l' q ≢ Some 0
positive_after l l' id o some h finds q e = at (q == id) (sym (finds q) ∙ e)
  where
    at : (b : Bool) → cond b o (found l q) ≡ Some 0 → ⊥
    at true e = some e
    at false e = h q e

-- columns that are a store's, and a key of it with the place of its column
module _ (vectors : List (Vec (ℕ × ℕ) Global)) (count room : ℕ) (h : AreColumns vectors count room) (k : Key)
    (small : k.class < 8) (class : ℕ) (place : class ≡ k.class) (v : Vec (ℕ × ℕ) Global) where
  here : class < length vectors
  here = let e = h.eight in omega arith

  pub column_at : IsColumn (get_or vectors class v).items
  column_at = subst IsColumn (get-lists vectors class v here) (h.columns class)

  same_length : length (get_or (lists_of vectors) class []) ≡ length (get_or vectors class v).items
  same_length = ap (λ x. length x) (get-lists vectors class v here)

  pub column_fits : length (get_or vectors class v).items ≤ count
  column_fits = let e = h.counted in let m = count_most (lists_of vectors) class in let l = same_length in omega arith

  pub column_room : room ≤ vec_capacity (get_or vectors class v)
  column_room = h.roomy class (omega arith) v

  pub store_size : length (map_of vectors).entries ≡ count
  store_size = size-store_of (lists_of vectors) h.columns ∙ sym h.counted

  -- a new key's pair is one more
  pub room_for : (value : ℕ) → 0 < value → found (get_or vectors class v).items k.id ≡ None → size (written (map_of vectors) k value) ≤ room → count + 1 ≤ room
  room_for value pos none fits =
      let finds : find key_cmp k (map_of vectors).entries ≡ None =
      ap (find key_cmp k) (entries-store_of (lists_of vectors) h.columns)
      ∙ ap (λ n. find key_cmp (key n k.id) (all_pairs 0 (lists_of vectors))) (let e : k.class ≡ 0 + class = omega arith in e)
      ∙ find-all class k.id 0 (lists_of vectors) ∙ ap (λ l. found l k.id) (get-lists vectors class v here) ∙ none in
      let one = size-new (map_of vectors) k value pos finds in
      let many = store_size in omega arith

  module _ (v' : Vec (ℕ × ℕ) Global) (o : Option ℕ) (some : o ≢ Some 0) (rising : IsRising v'.items) (finds : (q : ℕ)
      → found v'.items q ≡ (if q == k.id then o else found (get_or vectors class v).items q)) where
    column : IsColumn v'.items
    column = record { rising = rising; positive = positive_after _ _ k.id o some column_at.positive finds }

    writes : Writes (get_or (lists_of vectors) k.class []) v'.items k.id o
    writes = record {
      column = column;
      finds = λ q. finds q
          ∙ ap (λ l. if q == k.id then o else found l q) (sym (get-lists vectors class v here)
          ∙ ap (λ n. get_or (lists_of vectors) n []) place);
    }

    here' : class < length (lists_of vectors)
    here' = let e = length-lists vectors in let f = here in omega arith

    pub map_after : map_of (set vectors class v') ≡ written (map_of vectors) k (unwrap_or o 0)
    map_after = ap (λ n. map_of (set vectors n v')) place ∙ ap store_of (lists-set vectors k.class v')
        ∙ written_after (lists_of vectors) k v'.items o h.columns (let lt = here' in omega arith) writes

    pub still_columns : (count' : ℕ) → vec_capacity (get_or vectors class v) ≤ vec_capacity v'
        → count' + length (get_or vectors class v).items ≡ count + length v'.items → count' ≤ room
        → AreColumns (set vectors class v') count' room
    still_columns count' capacity counts within = record {
      eight = length-set vectors class v' ∙ h.eight;
      columns = λ other. subst (λ (ls : List Pairs). IsColumn (get_or ls other [])) (sym (lists-set vectors class v'))
          (columns_after (lists_of vectors) class v'.items h.columns here' column other);
      roomy = λ other lt d. roomy other lt d (other == class) (eqb_tells other class);
      counted =
          let a = count_after (lists_of vectors) class v'.items here' in
          let b = same_length in
          let c : count_of (lists_of (set vectors class v')) ≡ count_of (set (lists_of vectors) class v'.items) = ap count_of (lists-set vectors class v') in
          let e = h.counted in omega arith;
      within = within;
    }
      where
        roomy : (other : ℕ) → other < 8 → (d : Vec (ℕ × ℕ) Global) (b : Bool) → ((b ≡ true) × (other ≡ class))
            ⊎ ((b ≡ false) × (other ≢ class)) → room ≤ vec_capacity (get_or (set vectors class v') other d)
        roomy other lt d true (inl z) =
            let a = column_room in
            let b : vec_capacity (get_or (set vectors class v') other d) ≡ vec_capacity v' = ap vec_capacity
            (ap (λ n. get_or (set vectors class v') n d) z.1 ∙ get_or-set_same vectors class v' d here) in omega arith
        roomy other lt d true (inr z) = cc
        roomy other lt d false (inl z) = cc
        roomy other lt d false (inr z) =
            let a = h.roomy other lt d in
            let b : vec_capacity (get_or (set vectors class v') other d)
            ≡ vec_capacity (get_or vectors other d) = ap vec_capacity
            (get_or-set_other vectors class other v' d z.1) in omega arith

no_values : (vectors : List (Vec (ℕ × ℕ) Global)) → ((class : ℕ) → get_or (lists_of vectors) class [] ≡ [])
    → (class : ℕ) → IsColumn (get_or (lists_of vectors) class [])
no_values vectors h class = subst IsColumn (sym (h class)) (record { rising = λ i j lt in_range. absurd (omega arith); positive = λ id e. cc })

pub no_pairs : (vectors : List (Vec (ℕ × ℕ) Global)) → ((class : ℕ) → get_or (lists_of vectors) class [] ≡ []) → map_of vectors ≡ empty
no_pairs vectors h = same_store (map_of vectors) empty (λ q.
    value_at-store_of (lists_of vectors) (no_values vectors h) q ∙ ap (λ l. unwrap_or (found l q.id) 0) (h q.class) ∙ sym (value_at-empty q))

pub all_empty : (vectors : List (Vec (ℕ × ℕ) Global)) → AreEmpty vectors → (class : ℕ) → get_or (lists_of vectors) class [] ≡ []
all_empty [] h class = refl
all_empty (v ∷ vs) h zero = h.0
all_empty (v ∷ vs) h (suc class) = all_empty vs h.1 class

pub out_of_range : (vectors : List (Vec (ℕ × ℕ) Global)) (class : ℕ) → length vectors ≤ class → get_or (lists_of vectors) class [] ≡ []
out_of_range [] class le = refl
out_of_range (v ∷ vs) zero le = absurd (omega arith)
out_of_range (v ∷ vs) (suc class) le = out_of_range vs class (omega arith)

-- the same pairs in columns with more room
pub grown : (old new : List (Vec (ℕ × ℕ) Global)) (count room room' : ℕ) → AreColumns old count room
    → lists_of new ≡ lists_of old → length new ≡ length old → count ≤ room'
    → ((class : ℕ) → class < 8 → (v : Vec (ℕ × ℕ) Global) → room' ≤ vec_capacity (get_or new class v)) → AreColumns new count room'
grown old new count room room' h same eight within roomy = record {
  eight = eight ∙ h.eight;
  columns = λ class. subst (λ (ls : List Pairs). IsColumn (get_or ls class [])) (sym same) (h.columns class);
  roomy = roomy;
  counted = h.counted ∙ ap count_of (sym same);
  within = within;
}

pub added_within : (count added room : ℕ) → count ≤ room → added ≤ 1 → (0 < added → count + 1 ≤ room) → count + added ≤ room
added_within count zero room within most more = omega arith
added_within count (suc n) room within most more = let m = more (omega arith) in omega arith

-- vectors with the same items at each place have the same lists
pub same_items : (n : ℕ) (a b : List (Vec (ℕ × ℕ) Global)) → length a ≡ n → length b ≡ n
    → ((k : ℕ) (v : Vec (ℕ × ℕ) Global) → k < n → (get_or a k v).items ≡ (get_or b k v).items) → lists_of a ≡ lists_of b
same_items n [] [] ea eb h = refl
same_items n [] (y ∷ b) ea eb h = absurd (omega arith)
same_items n (x ∷ a) [] ea eb h = absurd (omega arith)
same_items zero (x ∷ a) (y ∷ b) ea eb h = absurd (omega arith)
same_items (suc n) (x ∷ a) (y ∷ b) ea eb h = λ i. h 0 x (omega arith) i ∷ same_items n a b (omega arith) (omega arith) (λ k v lt. h (suc k) v (omega arith)) i

-- a column's pairs, then those of the later columns
all-drop : (lists : List Pairs) (n class : ℕ) → n < length lists
    → keyed class (get_or lists n []) ++ all_pairs (class + 1) (drop (n + 1) lists) ≡ all_pairs class (drop n lists)
all-drop [] n class lt = absurd (omega arith)
all-drop (l ∷ ls) zero class lt = refl
all-drop (l ∷ ls) (suc n) class lt =
    ap (λ m. keyed class (get_or ls n []) ++ all_pairs (class + 1) (drop m (l ∷ ls))) (let e : suc n + 1
    ≡ suc (n + 1) = omega arith in e) ∙ all-drop ls n class (omega arith)

pub join_step : (old : List (Key × ℕ)) (lists : List Pairs) (n class : ℕ) (l : Pairs) → n < length lists
    → l ≡ get_or lists n [] → (old ++ keyed class l) ++ all_pairs (class + 1) (drop (n + 1) lists) ≡ old
    ++ all_pairs class (drop n lists)
join_step old lists n class l lt e =
    ap (λ x. (old ++ keyed class x) ++ all_pairs (class + 1) (drop (n + 1) lists)) e
    ∙ append_assoc old (keyed class (get_or lists n [])) (all_pairs (class + 1) (drop (n + 1) lists))
    ∙ ap (λ x. old ++ x) (all-drop lists n class lt)

pub no_count : (vectors : List (Vec (ℕ × ℕ) Global)) → AreEmpty vectors → count_of (lists_of vectors) ≡ 0
no_count [] h = refl
no_count (v ∷ vs) h = let a : length v.items ≡ 0 = ap (λ x. length x) h.0 in let b = no_count vs h.1 in omega arith

-- eight columns without pairs
pub no_columns : (vectors : List (Vec (ℕ × ℕ) Global)) → AreEmpty vectors → length vectors ≡ 8 → AreColumns vectors 0 0
no_columns vectors h eight = record {
  eight = eight;
  columns = no_values vectors (all_empty vectors h);
  roomy = λ class lt v. omega arith;
  counted = sym (no_count vectors h);
  within = omega arith;
}
