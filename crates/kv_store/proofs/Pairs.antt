-- What `found` finds in a list of pairs, and what an edit of the list does to it.
use Rattle.std.proofs.Common.{◌≡◌, ℕ, zero, suc, ◌<◌, ◌≤◌, eqb, ◌≢◌, [], ◌∷◌, length, get_or, set, if◌then◌else◌, Some, None, refl, arith}
use Rattle.std.specs.List.{insert, remove}
use Rattle.std.proofs.lemmas.Bool.Decides.{nat_tests}
use Rattle.kv_store.specs.Columns.{Pairs, found, id_at, IsAt}

-- no pair before place i has the key
abbrev pub NoKeyBefore : Pairs → ℕ → ℕ → Type 0
NoKeyBefore l k i = (j : ℕ) → j < i → id_at l j ≢ k

-- `found` on new answers v at the key k, and as on old at any other key
abbrev pub GetsAfterSet : Pairs → Pairs → ℕ → ℕ → Type 0
GetsAfterSet old new k v = (q : ℕ) → found new q ≡ (if eqb q k then Some v else found old q)

-- no pair of the tail has the key either
no_key_before_tail : (x : ℕ × ℕ) (l : Pairs) (k i : ℕ) → NoKeyBefore (x ∷ l) k (suc i) → NoKeyBefore l k i
no_key_before_tail x l k i no_key j lt = no_key (suc j) (omega arith)

-- in the tail, a pair is one place lower
is_at_tail : (x : ℕ × ℕ) (l : Pairs) (k i : ℕ) → IsAt (x ∷ l) k (suc i) → IsAt l k i
is_at_tail x l k i is_at = record { in_range = omega (arith, is_at.in_range); has_id = is_at.has_id }

-- a key that no pair has is not found
pub found_absent : (l : Pairs) (k : ℕ) → NoKeyBefore l k (length l) → found l k ≡ None
found_absent [] k no_key = refl
found_absent (x ∷ l) k no_key = grind (arith, nat_tests, no_key 0 (omega arith), found_absent l k (no_key_before_tail x l k _ no_key))

-- the first pair that has the key gives the value
pub found_present : (l : Pairs) (k i : ℕ) → IsAt l k i → NoKeyBefore l k i → found l k ≡ Some (get_or l i (0, 0)).1
found_present [] k i is_at no_key = absurd (omega (arith, is_at.in_range))
found_present (x ∷ l) k zero is_at no_key = grind (arith, nat_tests, is_at.has_id)
found_present (x ∷ l) k (suc i) is_at no_key = grind (
  arith,
  nat_tests,
  no_key 0 (omega arith),
  found_present l k i (is_at_tail x l k i is_at) (no_key_before_tail x l k i no_key),
)

-- writing over the first pair that has the key sets its value
pub found_set : (l : Pairs) (k v i : ℕ) → IsAt l k i → NoKeyBefore l k i → GetsAfterSet l (set l i (k, v)) k v
found_set [] k v i is_at no_key q = absurd (omega (arith, is_at.in_range))
found_set (x ∷ l) k v zero is_at no_key q = grind (arith, nat_tests, is_at.has_id)
found_set (x ∷ l) k v (suc i) is_at no_key q = grind (
  arith,
  nat_tests,
  no_key 0 (omega arith),
  found_set l k v i (is_at_tail x l k i is_at) (no_key_before_tail x l k i no_key) q,
)

-- so does a new pair before any pair that has the key
pub found-insert : (l : Pairs) (k v i : ℕ) → NoKeyBefore l k i → GetsAfterSet l (insert l i (k, v)) k v
found-insert l k v zero no_key q = refl
found-insert [] k v (suc i) no_key q = refl
found-insert (x ∷ l) k v (suc i) no_key q = grind (arith, nat_tests, no_key 0 (omega arith), found-insert l k v i (no_key_before_tail x l k i no_key) q)

-- no pair from place i on has the id
abbrev pub NoKeyFrom : Pairs → ℕ → ℕ → Type 0
NoKeyFrom l k i = (j : ℕ) → i ≤ j → j < length l → id_at l j ≢ k

no_key_from_tail : (x : ℕ × ℕ) (l : Pairs) (k i : ℕ) → NoKeyFrom (x ∷ l) k (suc i) → NoKeyFrom l k i
no_key_from_tail x l k i no_key j le lt = no_key (suc j) (omega arith) (omega arith)

-- without the only pair that has the id nothing is found there
pub found_removed : (l : Pairs) (k i : ℕ) → IsAt l k i → NoKeyBefore l k i → NoKeyFrom l k (suc i) → (q : ℕ)
    → found (remove l i) q ≡ (if eqb q k then None else found l q)
found_removed [] k i is_at before later q = absurd (omega (arith, is_at.in_range))
found_removed (x ∷ l) k zero is_at before later q = grind (
  arith,
  nat_tests,
  is_at.has_id,
  found_absent l k (λ j lt. no_key_from_tail x l k 0 later j (omega arith) lt),
)
found_removed (x ∷ l) k (suc i) is_at before later q = grind (
  arith,
  nat_tests,
  before 0 (omega arith),
  found_removed l k i (is_at_tail x l k i is_at) (no_key_before_tail x l k i before) (no_key_from_tail x l k (suc i) later) q,
)
