-- What taking puts back gives.
use Rattle.std.proofs.Common.{◌≡◌, ℕ, zero, suc, ◌<◌, ◌≤◌, Bool, true, false, cond, List, [], ◌∷◌, ◌++◌, length, get_or}
use Rattle.std.proofs.Common.{take, drop, max, refl, sym, ap, subst, ◌∙◌, arith, take-append-drop}
use Rattle.std.proofs.lemmas.List.{drop-append-le, take-take}
use Rattle.aeg_base.specs.declared.names.Key.{Key}
use Rattle.aeg_base.specs.Store.{Store, same_key, value_at, written}
use Rattle.aeg_base.proofs.StoreLaws.{value_at-written, same_store}
use Rattle.aeg_base.proofs.ChangeLaws.{key_parts}
use Rattle.kv_store.specs.Stores.{size, unwound, StaysWithin, AreKeys}

pub unwound-snoc : (es : List (Key × ℕ)) (e : Key × ℕ) (s : Store) → unwound (es ++ e ∷ []) s ≡ unwound es (written s e.0 e.1)
unwound-snoc [] e s = refl
unwound-snoc (x ∷ es) e s = ap (λ t. written t x.0 x.1) (unwound-snoc es e s)

-- the value that a key had, written again, gives the store before the write
pub written_back : (s : Store) (k : Key) (v : ℕ) → written (written s k v) k (value_at s k) ≡ s
written_back s k v = same_store (written (written s k v) k (value_at s k)) s (λ q.
    value_at-written (written s k v) k (value_at s k) q ∙ ap (cond (same_key q k) (value_at s k)) (value_at-written s k v q) ∙ at q (same_key q k) refl)
  where
    at : (q : Key) (b : Bool) → same_key q k ≡ b → cond b (value_at s k) (cond b v (value_at s q)) ≡ value_at s q
    at q true e = ap (value_at s) (sym (key_parts q k e))
    at q false e = refl

pub start_kept : (es : List (Key × ℕ)) (s : Store) (k : Key) (v : ℕ) → unwound (es ++ (k, value_at s k) ∷ []) (written s k v) ≡ unwound es s
start_kept es s k v = unwound-snoc es (k, value_at s k) (written s k v) ∙ ap (unwound es) (written_back s k v)

-- the last of a list is the newest put
pub stays_before : (top : ℕ) (es : List (Key × ℕ)) (e : Key × ℕ) (s : Store) → StaysWithin top (es ++ e ∷ []) s → StaysWithin top es (written s e.0 e.1)
stays_before top [] e s h = tt
stays_before top (x ∷ es) e s h = (stays_before top es e s h.0, subst (λ t. size t ≤ top) (unwound-snoc (x ∷ es) e s) h.1)

pub stays_last : (top : ℕ) (es : List (Key × ℕ)) (e : Key × ℕ) (s : Store) → StaysWithin top (es ++ e ∷ []) s → size (written s e.0 e.1) ≤ top
stays_last top [] e s h = h.1
stays_last top (x ∷ es) e s h = stays_last top es e s h.0

pub stays_after : (top top' : ℕ) (es : List (Key × ℕ)) (s : Store) (k : Key) (v : ℕ) → StaysWithin top es s → top ≤ top'
    → size s ≤ top' → StaysWithin top' (es ++ (k, value_at s k) ∷ []) (written s k v)
stays_after top top' [] s k v h le fits = (tt, subst (λ t. size t ≤ top') (sym (written_back s k v)) fits)
stays_after top top' (x ∷ es) s k v h le fits =
    (stays_after top top' es s k v h.0 le fits, subst (λ t. size t ≤ top') (sym (start_kept (x ∷ es) s k v)) (let m = h.1 in omega arith))

pub keys_push : (es : List (Key × ℕ)) (e : Key × ℕ) → AreKeys es → e.0.class < 8 → AreKeys (es ++ e ∷ [])
keys_push [] e h k = (k, tt)
keys_push (x ∷ es) e h k = (h.0, keys_push es e h.1 k)

pub keys_before : (es : List (Key × ℕ)) (e : Key × ℕ) → AreKeys (es ++ e ∷ []) → AreKeys es
keys_before [] e h = tt
keys_before (x ∷ es) e h = (h.0, keys_before es e h.1)

pub key_last : (es : List (Key × ℕ)) (e : Key × ℕ) → AreKeys (es ++ e ∷ []) → e.0.class < 8
key_last [] e h = h.0
key_last (x ∷ es) e h = key_last es e h.1

pub unwound-append : (xs ys : List (Key × ℕ)) (s : Store) → unwound (xs ++ ys) s ≡ unwound xs (unwound ys s)
unwound-append [] ys s = refl
unwound-append (x ∷ xs) ys s = ap (λ t. written t x.0 x.1) (unwound-append xs ys s)

-- what is left of a list is taken back after what was
pub undone_more : (all es : List (Key × ℕ)) (m : ℕ) (s : Store) → es ≡ take (length es) all → m ≤ length es
    → unwound (drop m es) (unwound (drop (length es) all) s) ≡ unwound (drop m all) s
undone_more all es m s e le =
    sym (unwound-append (drop m es) (drop (length es) all) s)
    ∙ ap (λ xs. unwound xs s) (sym (drop-append-le m es (drop (length es) all) le)
    ∙ ap (drop m) (ap (λ xs. xs ++ drop (length es) all) e ∙ take-append-drop (length es) all))

-- a front of a front
pub front_more : {A : Type 0} (all es fs : List A) → es ≡ take (length es) all → fs ≡ take (length fs) es → length fs ≤ length es → fs ≡ take (length fs) all
front_more all es fs e f le = f ∙ ap (take (length fs)) e ∙ take-take (length fs) (length es) all le

-- what a put and its entry leave
module _ (es es' : List (Key × ℕ)) (s s' : Store) (k : Key) (v held : ℕ) (put : s' ≡ written s k v)
    (is : held ≡ value_at s k) (log : es' ≡ es ++ (k, held) ∷ []) where
  both : unwound es' s' ≡ unwound (es ++ (k, value_at s k) ∷ []) (written s k v)
  both = ap (λ xs. unwound xs s') (log ∙ ap (λ n. es ++ (k, n) ∷ []) is) ∙ ap (unwound (es ++ (k, value_at s k) ∷ [])) put

  pub logged_start : unwound es' s' ≡ unwound es s
  logged_start = both ∙ start_kept es s k v

  pub logged_stays : (top top' : ℕ) → top ≤ top' → size s ≤ top' → StaysWithin top es s → StaysWithin top' es' s'
  logged_stays top top' le fits h =
      subst (λ (t : Store). StaysWithin top' es' t) (sym put)
      (subst (λ (xs : List (Key × ℕ)). StaysWithin top' xs (written s k v)) (sym (log ∙ ap (λ n. es ++ (k, n) ∷ []) is))
      (stays_after top top' es s k v h le fits))

pub top_above : (top' top most : ℕ) → top' ≡ max top most → top ≤ top'
top_above top' top most e = omega arith

pub top_covers : (top' top most before after count : ℕ) → top' ≡ max top most → most ≡ max before after → before ≡ count → count ≤ top'
top_covers top' top most before after count e m b = omega arith

pub key_at : (es : List (Key × ℕ)) (i : ℕ) (d : Key × ℕ) → AreKeys es → i < length es → (get_or es i d).0.class < 8
key_at [] i d h lt = absurd (omega arith)
key_at (e ∷ es) zero d h lt = h.0
key_at (e ∷ es) (suc i) d h lt = key_at es i d h.1 (omega arith)
