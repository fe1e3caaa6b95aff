-- A segment sees and changes only keys whose locks it touches.
use Rattle.std.proofs.Common.{◌≡◌, ℕ, Bool, true, false, if◌then◌else◌, ◌∷◌, refl, sym, ap, subst, ◌∙◌, arith}
use Rattle.std.proofs.lemmas.Bool.Decides.{nat_tests}
use Rattle.aeg_base.specs.Store.{Store, same_key, value_at, written}
use Rattle.aeg_base.specs.Locks.{lock_number}
use Rattle.aeg_base.specs.declared.names.Key.{Key}
use Rattle.aeg_base.proofs.StoreLaws.{value_at-written}
use Rattle.svc_api.specs.Plan.{Plan, Reads, Writes, Ends, store_after, ending_of, keys_of, AreLocked, AgreeWhere}

-- the same write keeps that two stores agree
written_agrees : (locked : ℕ → Bool) (s t : Store) (k : Key) (v : ℕ) → AgreeWhere locked s t → AgreeWhere locked (written s k v) (written t k v)
written_agrees locked s t k v agree q h =
    value_at-written s k v q ∙ ap (λ n. if same_key q k then v else n) (agree q h) ∙ sym (value_at-written t k v q)

-- the same key has the same lock
pub same_lock : (a b : Key) → same_key a b ≡ true → lock_number a ≡ lock_number b
same_lock a b e = grind (arith, nat_tests)

locked_is : (locked : ℕ → Bool) (l : ℕ) → locked l ≡ true → locked l ≡ false → ⊥
locked_is locked l h n = let z : true ≡ false = sym h ∙ n in cc

pub ending_same : (p : Plan) (s t : Store) (locked : ℕ → Bool) → AreLocked locked (keys_of p s) → AgreeWhere locked s t → ending_of p t ≡ ending_of p s
ending_same (Reads k rest) s t locked h agree =
    ap (λ n. ending_of (rest n) t) (sym (agree k h.0)) ∙ ending_same (rest (value_at s k)) s t locked h.1 agree
ending_same (Writes k v rest) s t locked h agree =
    ending_same rest (written s k v) (written t k v) locked h.1 (written_agrees locked s t k v agree)
ending_same (Ends e) s t locked h agree = refl

pub keys_same : (p : Plan) (s t : Store) (locked : ℕ → Bool) → AreLocked locked (keys_of p s) → AgreeWhere locked s t → keys_of p t ≡ keys_of p s
keys_same (Reads k rest) s t locked h agree =
    ap (λ n. k ∷ keys_of (rest n) t) (sym (agree k h.0)) ∙ ap (λ ks. k ∷ ks) (keys_same (rest (value_at s k)) s t locked h.1 agree)
keys_same (Writes k v rest) s t locked h agree =
    ap (λ ks. k ∷ ks) (keys_same rest (written s k v) (written t k v) locked h.1 (written_agrees locked s t k v agree))
keys_same (Ends e) s t locked h agree = refl

pub changes_same : (p : Plan) (s t : Store) (locked : ℕ → Bool) → AreLocked locked (keys_of p s) → AgreeWhere locked s t
    → AgreeWhere locked (store_after p s) (store_after p t)
changes_same (Reads k rest) s t locked h agree =
    subst (λ (n : ℕ). AgreeWhere locked (store_after (rest (value_at s k)) s) (store_after (rest n) t)) (agree k h.0)
    (changes_same (rest (value_at s k)) s t locked h.1 agree)
changes_same (Writes k v rest) s t locked h agree =
    changes_same rest (written s k v) (written t k v) locked h.1 (written_agrees locked s t k v agree)
changes_same (Ends e) s t locked h agree = agree

-- a key of another lock keeps its value at a write
other_key : (locked : ℕ → Bool) (s : Store) (k : Key) (v : ℕ) (q : Key) → locked (lock_number k) ≡ true
    → locked (lock_number q) ≡ false → value_at (written s k v) q ≡ value_at s q
other_key locked s k v q h n = value_at-written s k v q ∙ at (same_key q k) refl
  where
    at : (c : Bool) → same_key q k ≡ c → (if c then v else value_at s q) ≡ value_at s q
    at false e = refl
    at true e = absurd (locked_is locked (lock_number k) h (sym (ap locked (same_lock q k e)) ∙ n))

pub elsewhere_same : (p : Plan) (s : Store) (locked : ℕ → Bool) (q : Key) → AreLocked locked (keys_of p s)
    → locked (lock_number q) ≡ false → value_at (store_after p s) q ≡ value_at s q
elsewhere_same (Reads k rest) s locked q h n = elsewhere_same (rest (value_at s k)) s locked q h.1 n
elsewhere_same (Writes k v rest) s locked q h n =
    elsewhere_same rest (written s k v) locked q h.1 n ∙ other_key locked s k v q h.0 n
elsewhere_same (Ends e) s locked q h n = refl
