-- What the machine keeps of what a store answers, of the locks and of the progress of each segment.
use Rattle.std.proofs.Common.{◌≡◌, ◌≢◌, ℕ, ◌+◌, ◌==◌, Bool, true, false, refl, sym, ap, ◌∙◌, subst, inl, inr, ◌⊎◌, cond, arith}
use Rattle.std.proofs.lemmas.Bool.Decides.{nat_tests, eqb_tells}
use Rattle.aeg_base.specs.declared.names.Key.{Key}
use Rattle.aeg_base.specs.Store.{same_key}
use Rattle.aeg_base.specs.Locks.{lock_number}
use Rattle.svc_api.specs.Plan.{Plan, Reads, Writes, Ends}
use Rattle.svc_api.specs.declared.action.Ending.{Ending}
use Rattle.exec_model.specs.Machine.{update, Progress, Running, Ended}
use Rattle.svc_api.proofs.Touched.{same_lock}
use Rattle.exec_model.proofs.Lookups.{Lookup, put, after, end_with}

-- what segment i sees: the store where it holds the lock, else t
abbrev pub view : (ℕ → ℕ) → ℕ → Lookup → Lookup → Lookup
view w i s t = λ k. cond (w (lock_number k) == i + 1) (s k) (t k)

pub record Same (p : Plan) (s : Lookup) (q : Plan) (t : Lookup) : Type 0 where
  pub stores : after p s ≡ after q t
  pub endings : end_with p s ≡ end_with q t

-- b is the store after the segments that have ended
pub record Safe (plan : ℕ → Plan) (b s : Lookup) (w : ℕ → ℕ) (q : ℕ → Progress) : Type 0 where
  -- where no lock is held nothing else was done
  pub free : (k : Key) → w (lock_number k) ≡ 0 → s k ≡ b k
  -- a running segment has done what its plan does on any store that is like b where it holds the lock
  pub runs : (i : ℕ) (p : Plan) → q i ≡ Running p → (t : Lookup) → ((k : Key) → w (lock_number k) ≡ i + 1 → t k ≡ b k) → Same (plan i) t p (view w i s t)

pub Same-at : (p q : Plan) (s t u : Lookup) → Same p s q t → ((k : Key) → t k ≡ u k) → Same p s q u
Same-at p q s t u h e = let e' : t ≡ u = λ i k. e k i in subst (λ x. Same p s q x) e' h

view_take : (l k wk i j : ℕ) (sk tk : ℕ) → (l ≡ k → (wk ≡ 0) ⊎ (wk ≡ i + 1)) → (l ≡ k → wk ≡ 0 → i ≡ j → sk ≡ tk)
    → cond (wk == j + 1) sk tk ≡ cond (cond (l == k) (i + 1) wk == j + 1) sk tk
view_take l k wk i j sk tk g h = grind (arith, nat_tests)

pub Safe-take : (plan : ℕ → Plan) (b s : Lookup) (w : ℕ → ℕ) (q : ℕ → Progress) (i l : ℕ) → Safe plan b s w q
    → (w l ≡ 0) ⊎ (w l ≡ i + 1) → Safe plan b s (update w l (i + 1)) q
Safe-take plan b s w q i l h g = record {
  free = λ k e. h.free k (free_at k e);
  runs = λ j p e t agree.
      Same-at (plan j) p t (view w j s t) (view (update w l (i + 1)) j s t)
      (h.runs j p e t (λ k o. agree k (own_at j k o)))
      (λ k. view_take l (lock_number k) (w (lock_number k)) i j (s k) (t k) (λ e. subst (λ x. (w x ≡ 0) ⊎ (w x ≡ i + 1)) e g)
      (λ e z ij. h.free k z ∙ sym (agree k (taken_at j k e ij))));
}
  where
    free_at : (k : Key) → update w l (i + 1) (lock_number k) ≡ 0 → w (lock_number k) ≡ 0
    free_at k e = grind (arith, nat_tests)

    own_at : (j : ℕ) (k : Key) → w (lock_number k) ≡ j + 1 → update w l (i + 1) (lock_number k) ≡ j + 1
    own_at j k o = grind (arith, nat_tests)

    taken_at : (j : ℕ) (k : Key) → l ≡ lock_number k → i ≡ j → update w l (i + 1) (lock_number k) ≡ j + 1
    taken_at j k e ij = grind (arith, nat_tests)

-- a segment that holds the key's lock reads it
pub Safe-read : (plan : ℕ → Plan) (b s : Lookup) (w : ℕ → ℕ) (q : ℕ → Progress) (i : ℕ) (k : Key) (f : ℕ → Plan)
    → Safe plan b s w q → w (lock_number k) ≡ i + 1 → q i ≡ Running (Reads k f) → Safe plan b s w (update q i (Running (f (s k))))
Safe-read plan b s w q i k f h own r = record {
  free = h.free;
  runs = λ j p e t agree. at j p t agree (i == j) (eqb_tells i j) e;
}
  where
    sees : (t : Lookup) → view w i s t k ≡ s k
    sees t = grind (arith, nat_tests)

    at : (j : ℕ) (p : Plan) (t : Lookup) → ((k : Key) → w (lock_number k) ≡ j + 1 → t k ≡ b k) → (c : Bool)
        → ((c ≡ true) × (i ≡ j)) ⊎ ((c ≡ false) × (i ≢ j)) → cond c (Running (f (s k))) (q j) ≡ Running p
        → Same (plan j) t p (view w j s t)
    at j p t agree false z e = h.runs j p e t agree
    at j p t agree true (inr z) e = cc
    at j p t agree true (inl z) e =
        let same : f (s k) ≡ p = cc in
        let old = h.runs i (Reads k f) r t (λ k o. agree k (o ∙ ap (λ x. x + 1) z.1)) in
        let new : Same (plan i) t (f (s k)) (view w i s t) = record {
          stores = old.stores ∙ ap (λ v. after (f v) (view w i s t)) (sees t);
          endings = old.endings ∙ ap (λ v. end_with (f v) (view w i s t)) (sees t);
        } in
        subst (λ (j : ℕ). Same (plan j) t p (view w j s t)) z.1 (subst (λ p. Same (plan i) t p (view w i s t)) same new)

view_put : (c o : Bool) (v sk tk : ℕ) → (c ≡ true → o ≡ true) → cond c v (cond o sk tk) ≡ cond o (cond c v sk) tk
view_put true true v sk tk h = refl
view_put true false v sk tk h = let z : false ≡ true = h refl in cc
view_put false o v sk tk h = refl

-- a segment that holds the key's lock writes it
pub Safe-write : (plan : ℕ → Plan) (b s : Lookup) (w : ℕ → ℕ) (q : ℕ → Progress) (i : ℕ) (k : Key) (v : ℕ) (p : Plan)
    → Safe plan b s w q → w (lock_number k) ≡ i + 1 → q i ≡ Running (Writes k v p)
    → Safe plan b (put s k v) w (update q i (Running p))
Safe-write plan b s w q i k v p h own r = record {
  free = λ j e. other j (λ z. let o = owned j z in absurd (omega arith)) ∙ h.free j e;
  runs = λ j x e t agree. at j x t agree (i == j) (eqb_tells i j) e;
}
  where
    owned : (j : Key) → same_key k j ≡ true → w (lock_number j) ≡ i + 1
    owned j e = subst (λ l. w l ≡ i + 1) (same_lock k j e) own

    other : (j : Key) → (same_key k j ≡ true → ⊥) → put s k v j ≡ s j
    other j h = by (same_key k j) h
      where
        by : (c : Bool) → (c ≡ true → ⊥) → cond c v (s j) ≡ s j
        by true h = absurd (h refl)
        by false h = refl

    own_true : (j : Key) → same_key k j ≡ true → (w (lock_number j) == i + 1) ≡ true
    own_true j e = let o = owned j e in grind (arith, nat_tests)

    others : (j : ℕ) → i ≢ j → (x : Key) → (same_key k x ≡ true) → (w (lock_number x) == j + 1) ≡ false
    others j ne x e = let o = owned x e in grind (arith, nat_tests)

    keeps : (c o : Bool) (a y : ℕ) → (c ≡ true → o ≡ false) → cond o y a ≡ cond o (cond c v y) a
    keeps true true a y h = let z : true ≡ false = h refl in cc
    keeps true false a y h = refl
    keeps false o a y h = refl

    at : (j : ℕ) (x : Plan) (t : Lookup) → ((k : Key) → w (lock_number k) ≡ j + 1 → t k ≡ b k) → (c : Bool)
        → ((c ≡ true) × (i ≡ j)) ⊎ ((c ≡ false) × (i ≢ j)) → cond c (Running p) (q j) ≡ Running x
        → Same (plan j) t x (view w j (put s k v) t)
    at j x t agree false (inl z) e = cc
    at j x t agree false (inr z) e = Same-at (plan j) x t (view w j s t) (view w j (put s k v) t) (h.runs j x e t agree)
        (λ y. keeps (same_key k y) (w (lock_number y) == j + 1) (t y) (s y) (others j z.1 y))
    at j x t agree true (inr z) e = cc
    at j x t agree true (inl z) e =
        let same : p ≡ x = cc in
        let old = h.runs i (Writes k v p) r t (λ k o. agree k (o ∙ ap (λ x. x + 1) z.1)) in
        let path : put (view w i s t) k v ≡ view w i (put s k v) t = λ n y. view_put (same_key k y) (w (lock_number y) == i + 1) v (s y) (t y) (own_true y) n in
        let new : Same (plan i) t p (view w i (put s k v) t) = record {
          stores = old.stores ∙ ap (after p) path;
          endings = old.endings ∙ ap (end_with p) path;
        } in
        subst (λ (j : ℕ). Same (plan j) t x (view w j (put s k v) t)) z.1 (subst (λ p. Same (plan i) t p (view w i (put s k v) t)) same new)

view_release : (wk i j : ℕ) (sk tk : ℕ) → (i ≢ j) → cond (wk == j + 1) sk tk ≡ cond (cond (wk == i + 1) 0 wk == j + 1) sk tk
view_release wk i j sk tk h = grind (arith, nat_tests)

-- what a segment that ends has made is what its plan makes of the store after the others
pub Safe-left : (plan : ℕ → Plan) (b s : Lookup) (w : ℕ → ℕ) (q : ℕ → Progress) (i : ℕ) (e : Ending) → Safe plan b s w q
    → q i ≡ Running (Ends e) → Same (plan i) b (Ends e) (view w i s b)
Safe-left plan b s w q i e h r = h.runs i (Ends e) r b (λ k o. refl)

pub Safe-leave : (plan : ℕ → Plan) (b s : Lookup) (w : ℕ → ℕ) (q : ℕ → Progress) (i : ℕ) (e : Ending)
    → Safe plan b s w q → q i ≡ Running (Ends e)
    → Safe plan (after (plan i) b) s (λ l. cond (w l == i + 1) 0 (w l)) (update q i (Ended e))
Safe-leave plan b s w q i e h r =
    subst (λ (x : Lookup). Safe plan x s (λ l. cond (w l == i + 1) 0 (w l)) (update q i (Ended e))) (sym (Safe-left plan b s w q i e h r).stores) there
  where
    free_by : (k : Key) → (c : Bool) → cond c 0 (w (lock_number k)) ≡ 0 → s k ≡ cond c (s k) (b k)
    free_by k true z = refl
    free_by k false z = h.free k z

    still : (j : ℕ) → i ≢ j → (k : Key) → w (lock_number k) ≡ j + 1 → cond (w (lock_number k) == i + 1) 0 (w (lock_number k)) ≡ j + 1
    still j ne k o = grind (arith, nat_tests)

    seen : (j : ℕ) → i ≢ j → (k : Key) → w (lock_number k) ≡ j + 1 → view w i s b k ≡ b k
    seen j ne k o = grind (arith, nat_tests)

    at : (j : ℕ) (x : Plan) (t : Lookup)
        → ((k : Key) → cond (w (lock_number k) == i + 1) 0 (w (lock_number k)) ≡ j + 1 → t k ≡ view w i s b k)
        → (c : Bool) → ((c ≡ true) × (i ≡ j)) ⊎ ((c ≡ false) × (i ≢ j)) → cond c (Ended e) (q j) ≡ Running x
        → Same (plan j) t x (view (λ l. cond (w l == i + 1) 0 (w l)) j s t)
    at j x t agree true z e = cc
    at j x t agree false (inl z) e = cc
    at j x t agree false (inr z) e =
        Same-at (plan j) x t (view w j s t) _ (h.runs j x e t (λ k o. agree k (still j z.1 k o) ∙ seen j z.1 k o))
        (λ k. view_release (w (lock_number k)) i j (s k) (t k) z.1)

    there : Safe plan (view w i s b) s (λ l. cond (w l == i + 1) 0 (w l)) (update q i (Ended e))
    there = record {
      free = λ k z. free_by k (w (lock_number k) == i + 1) z;
      runs = λ j x e t agree. at j x t agree (i == j) (eqb_tells i j) e;
    }

-- where no lock is held: each running segment has done nothing
pub Safe-again : (plan : ℕ → Plan) (b b' s : Lookup) (w : ℕ → ℕ) (q q' : ℕ → Progress) → Safe plan b s w q
    → ((i : ℕ) (p : Plan) → q' i ≡ Running p → q i ≡ Running p)
    → ((i : ℕ) (p : Plan) → q' i ≡ Running p → (l : ℕ) → w l ≢ i + 1) → Safe plan b' b' (λ l. 0) q'
Safe-again plan b b' s w q q' h same none = record {
  free = λ k z. refl;
  runs = λ i p e t agree. Same-at (plan i) p t (view w i s t) _ (h.runs i p (same i p e) t (λ k o. absurd (none i p e (lock_number k) o)))
      (λ k. unseen (w (lock_number k)) i (s k) (t k) (b' k) (none i p e (lock_number k)));
}
  where
    unseen : (wk i : ℕ) (sk tk bk : ℕ) → (wk ≢ i + 1) → cond (wk == i + 1) sk tk ≡ cond (0 == i + 1) bk tk
    unseen wk i sk tk bk h = grind (arith, nat_tests)

pub Safe-start : (plan : ℕ → Plan) (b : Lookup) → Safe plan b b (λ l. 0) (λ i. Running (plan i))
Safe-start plan b = record {
  free = λ k z. refl;
  runs = λ i p e t agree. let same : plan i ≡ p = cc in Same-at (plan i) p t t _ (at p i t same) (λ k. unseen i (t k) (b k));
}
  where
    unseen : (i : ℕ) (tk bk : ℕ) → tk ≡ cond (0 == i + 1) bk tk
    unseen i tk bk = grind (arith, nat_tests)

    at : (p : Plan) (i : ℕ) (t : Lookup) → plan i ≡ p → Same (plan i) t p t
    at p i t e = record { stores = ap (λ x. after x t) e; endings = ap (λ x. end_with x t) e }

pub Safe-free : (plan : ℕ → Plan) (b s : Lookup) (w : ℕ → ℕ) (q : ℕ → Progress) → Safe plan b s w q → ((l : ℕ) → w l ≡ 0) → s ≡ b
Safe-free plan b s w q h z = λ i k. h.free k (z (lock_number k)) i
