-- How many pairs a store has after a write.
use Rattle.std.proofs.Common.{◌≡◌, ◌≢◌, ℕ, ◌+◌, ◌<◌, ◌≤◌, ◌==◌, Bool, true, false, cond, not, T, length, Option, None, is_some, ap, ◌∙◌, inl, inr, ◌⊎◌, arith}
use Rattle.std.proofs.lemmas.Bool.Decides.{eqb_tells}
use Rattle.std.specs.Ordering.{eq_by_cmp}
use Rattle.std.specs.FinMap.Entries.{find, put, where_key, is_sorted, length-put, length_without}
use Rattle.aeg_base.specs.declared.names.Key.{Key}
use Rattle.aeg_base.specs.Numbers.{no_zeros}
use Rattle.aeg_base.specs.Store.{Store, key_cmp, written}
use Rattle.aeg_base.proofs.NumberLaws.{first, entries-with_number}
use Rattle.aeg_base.proofs.StoreLaws.{key_cmp_total}
use Rattle.kv_store.specs.Stores.{size}

pub sorted : (s : Store) → T (is_sorted key_cmp s.entries)
sorted s = first _ (no_zeros s.entries) s.canonical

more : (b : Bool) (n : ℕ) → cond b n (n + 1) ≤ n + 1
more true n = omega arith
more false n = omega arith

less : (b : Bool) (n m : ℕ) → cond b 1 0 + n ≡ m → n ≤ m
less true n m e = omega arith
less false n m e = omega arith

-- a write adds at most one pair
pub size-written : (s : Store) (k : Key) (v : ℕ) → size (written s k v) ≤ size s + 1
size-written s k v = let e = ap (λ x. length x) (entries-with_number key_cmp_total s k v) in let m = at (v == 0) in omega arith
  where
    at : (b : Bool) → length (cond b (where_key key_cmp (λ q. not (eq_by_cmp key_cmp k q)) s.entries) (put key_cmp k v s.entries)) ≤ size s + 1
    at true = let h = less (is_some (find key_cmp k s.entries)) _ _ (length_without key_cmp key_cmp_total k s.entries (sorted s)) in omega arith
    at false = let h = length-put key_cmp key_cmp_total k v s.entries (sorted s) in let m = more (is_some (find key_cmp k s.entries)) (size s) in omega arith

-- a new key adds one
pub size-new : (s : Store) (k : Key) (v : ℕ) → 0 < v → find key_cmp k s.entries ≡ None → size (written s k v) ≡ size s + 1
size-new s k v pos none = ap (λ x. length x) (entries-with_number key_cmp_total s k v) ∙ at (v == 0) (eqb_tells v 0)
  where
    at : (b : Bool) → ((b ≡ true) × (v ≡ 0)) ⊎ ((b ≡ false) × (v ≢ 0))
        → length (cond b (where_key key_cmp (λ q. not (eq_by_cmp key_cmp k q)) s.entries) (put key_cmp k v s.entries)) ≡ size s + 1
    at true (inl z) = let e = z.1 in absurd (omega arith)
    at true (inr z) = cc
    at false z = length-put key_cmp key_cmp_total k v s.entries (sorted s) ∙ ap (λ (o : Option ℕ). cond (is_some o) (size s) (size s + 1)) none
