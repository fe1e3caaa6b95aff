-- The schedule that spells an order of whole segments meets no lock, and gives that order.
use Rattle.std.proofs.Common.{◌≡◌, ◌≢◌, ℕ, suc, ◌+◌, ◌≤◌, ◌==◌, Bool, true, false, ◌||◌, List, [], ◌∷◌, ◌++◌, refl, sym}
use Rattle.std.proofs.Common.{ap, ◌∙◌, subst, inl, inr, ◌⊎◌, cond, arith, append_assoc, append-nil}
use Rattle.std.proofs.lemmas.Bool.Decides.{nat_tests, eqb_tells}
use Rattle.aeg_base.specs.declared.names.Key.{Key}
use Rattle.aeg_base.specs.Store.{Store, value_at, written}
use Rattle.aeg_base.specs.Locks.{lock_number}
use Rattle.svc_api.specs.declared.action.Ending.{Ending}
use Rattle.svc_api.specs.Plan.{Plan, Reads, Writes, Ends, store_after}
use Rattle.exec_model.specs.Serial.{serial}
use Rattle.exec_model.specs.Machine.{next, State, update, any_running, is_running, Progress, Running, Ended, settle, again, touch, leave, turn, turns, finish}
use Rattle.svc_api.specs.Orders.{mem}
use Rattle.exec_model.specs.Spell.{repeat, steps_of, spell}
use Rattle.exec_model.proofs.Inv.{any_running-true}
use Rattle.exec_model.specs.Groups.{times}
use Rattle.exec_model.proofs.Ready.{Ready, turns-ready}
use Rattle.exec_model.proofs.Executor.{ended-stays, finish-entries}
use Rattle.exec_model.proofs.Finish.{turn_is, turns-append, update-own, turns-keeps, turn-covers, CoversAt, Covers-head, Covers-drop}

-- no segment but i is half way
pub record Alone (plan : ℕ → Plan) (i : ℕ) (u : State) : Type 0 where
  pub owners : (l : ℕ) → (u.owner l ≡ 0) ⊎ (u.owner l ≡ i + 1)
  pub others : (j : ℕ) → i ≢ j → is_running (u.progress j) ≡ true → u.progress j ≡ Running (plan j)

-- segment i went on from u to its end, in n steps, and left the store s
pub record Came (plan : ℕ → Plan) (i : ℕ) (u v : State) (s : Store) (n : ℕ) : Type 0 where
  pub free : (l : ℕ) → v.owner l ≡ 0
  pub whole : (j : ℕ) → is_running (v.progress j) ≡ true → v.progress j ≡ Running (plan j)
  pub order : v.past ++ v.done ≡ (u.past ++ u.done) ++ i ∷ []
  pub redo : v.redo ≡ u.redo
  pub store : v.store ≡ s
  pub steps : v.steps ≡ u.steps ++ repeat n i
  pub still : (j : ℕ) → i ≢ j → is_running (v.progress j) ≡ is_running (u.progress j)
  pub ended : is_running (v.progress i) ≡ false

abbrev pub grabbed : State → ℕ → ℕ → Store → Plan → State
grabbed t i l s p = record t { store = s; owner = update t.owner l (i + 1); progress = update t.progress i (Running p); steps = t.steps ++ i ∷ [] }

update-other : {A : Type 0} (q : ℕ → A) (i : ℕ) (x : A) (j : ℕ) → i ≢ j → update q i x j ≡ q j
update-other q i x j ne = at (i == j) (eqb_tells i j)
  where
    at : (c : Bool) → ((c ≡ true) × (i ≡ j)) ⊎ ((c ≡ false) × (i ≢ j)) → cond c x (q j) ≡ q j
    at false z = refl
    at true (inl z) = absurd (ne z.1)
    at true (inr z) = cc

own_lock : (w i : ℕ) → (w ≡ 0) ⊎ (w ≡ i + 1) → ((w == 0) || (w == i + 1)) ≡ true
own_lock w i h = grind (arith, nat_tests)

settle-on : (t : State) → any_running t.progress t.group ≡ true → settle t ≡ t
settle-on t e = ap (λ c. cond c t (next t)) e

touches : (plan : ℕ → Plan) (i : ℕ) (u : State) (k : Key) (s : Store) (p : Plan) → Alone plan i u → mem i u.group ≡ true
    → settle (touch plan u i k s p) ≡ grabbed u i (lock_number k) s p
touches plan i u k s p a m =
    ap (λ c. settle (cond c (grabbed u i (lock_number k) s p) (again plan u i))) (own_lock (u.owner (lock_number k)) i (a.owners (lock_number k)))
    ∙ settle-on (grabbed u i (lock_number k) s p)
    (any_running-true (update u.progress i (Running p)) u.group i m (ap is_running (update-own u.progress i (Running p))))

Alone-grabbed : (plan : ℕ → Plan) (i : ℕ) (u : State) (l : ℕ) (s : Store) (p : Plan) → Alone plan i u → Alone plan i (grabbed u i l s p)
Alone-grabbed plan i u l s p a = record {
  owners = λ k. at k (l == k) (a.owners k);
  others = λ j ne r. update-other u.progress i (Running p) j ne ∙ a.others j ne (sym (ap is_running (update-other u.progress i (Running p) j ne)) ∙ r);
}
  where
    at : (k : ℕ) (c : Bool) → (u.owner k ≡ 0) ⊎ (u.owner k ≡ i + 1) → (cond c (i + 1) (u.owner k) ≡ 0) ⊎ (cond c (i + 1) (u.owner k) ≡ i + 1)
    at k true z = inr refl
    at k false z = z

Came-grabbed : (plan : ℕ → Plan) (i : ℕ) (u v : State) (l : ℕ) (s s' : Store) (p : Plan) (n : ℕ)
    → Came plan i (grabbed u i l s p) v s' n → Came plan i u v s' (suc n)
Came-grabbed plan i u v l s s' p n c = record {
  free = c.free;
  whole = c.whole;
  order = c.order;
  redo = c.redo;
  store = c.store;
  steps = c.steps ∙ append_assoc u.steps (i ∷ []) (repeat n i);
  still = λ j ne. c.still j ne ∙ ap is_running (update-other u.progress i (Running p) j ne);
  ended = c.ended;
}

Came-left : (plan : ℕ → Plan) (i : ℕ) (u : State) (e : Ending) → Alone plan i u → Came plan i u (settle (leave u i e)) u.store 1
Came-left plan i u e a = at (any_running q u.group) refl
  where
    q : ℕ → Progress
    q = update u.progress i (Ended e)

    free : (l : ℕ) → cond (u.owner l == i + 1) 0 (u.owner l) ≡ 0
    free l = let z = a.owners l in grind (arith, nat_tests)

    whole : (j : ℕ) (c : Bool) → ((c ≡ true) × (i ≡ j)) ⊎ ((c ≡ false) × (i ≢ j))
        → is_running (cond c (Ended e) (u.progress j)) ≡ true → cond c (Ended e) (u.progress j) ≡ Running (plan j)
    whole j true z r = cc
    whole j false (inl z) r = cc
    whole j false (inr z) r = a.others j z.1 r

    at : (c : Bool) → any_running q u.group ≡ c → Came plan i u (cond c (leave u i e) (next (leave u i e))) u.store 1
    at true r = record {
      free = free;
      whole = λ j. whole j (i == j) (eqb_tells i j);
      order = sym (append_assoc u.past u.done (i ∷ []));
      redo = refl;
      store = refl;
      steps = refl;
      still = λ j ne. ap is_running (update-other u.progress i (Ended e) j ne);
      ended = ap is_running (update-own u.progress i (Ended e));
    }
    at false r = record {
      free = free;
      whole = λ j. whole j (i == j) (eqb_tells i j);
      order = append-nil (u.past ++ (u.done ++ i ∷ [])) ∙ sym (append_assoc u.past u.done (i ∷ []));
      redo = refl;
      store = refl;
      steps = refl;
      still = λ j ne. ap is_running (update-other u.progress i (Ended e) j ne);
      ended = ap is_running (update-own u.progress i (Ended e));
    }

pub came : (plan : ℕ → Plan) (i : ℕ) (p : Plan) (u : State) → Alone plan i u → mem i u.group ≡ true
    → u.progress i ≡ Running p
    → Came plan i u (turns plan u (repeat (steps_of p u.store) i)) (store_after p u.store) (steps_of p u.store)
came plan i (Reads k f) u a m r =
    let x = f (value_at u.store k) in
    let u' = grabbed u i (lock_number k) u.store x in
    let e : turn plan u i ≡ u' = turn_is plan u i (Running (Reads k f)) m r ∙ touches plan i u k u.store x a m in
    subst (λ (w : State). Came plan i u (turns plan w (repeat (steps_of x u.store) i)) (store_after x u.store) (suc (steps_of x u.store))) (sym e)
    (Came-grabbed plan i u _ (lock_number k) u.store _ x _
    (came plan i (f (value_at u.store k)) u' (Alone-grabbed plan i u (lock_number k) u.store x a) m
    (update-own u.progress i (Running x))))
came plan i (Writes k v x) u a m r =
    let s = written u.store k v in
    let u' = grabbed u i (lock_number k) s x in
    let e : turn plan u i ≡ u' = turn_is plan u i (Running (Writes k v x)) m r ∙ touches plan i u k s x a m in
    subst (λ (w : State). Came plan i u (turns plan w (repeat (steps_of x s) i)) (store_after x s) (suc (steps_of x s))) (sym e)
    (Came-grabbed plan i u _ (lock_number k) s _ x _ (came plan i x u' (Alone-grabbed plan i u (lock_number k) s x a) m (update-own u.progress i (Running x))))
came plan i (Ends e) u a m r =
    subst (λ (w : State). Came plan i u w u.store 1) (sym (turn_is plan u i (Running (Ends e)) m r)) (Came-left plan i u e a)

pub record Spelled (plan : ℕ → Plan) (u v : State) (xs : List ℕ) : Type 0 where
  pub order : v.past ++ v.done ≡ (u.past ++ u.done) ++ xs
  pub redo : v.redo ≡ u.redo
  pub store : v.store ≡ serial plan u.store xs
  pub steps : v.steps ≡ u.steps ++ spell plan u.store xs
  pub done : CoversAt [] v
  pub ended : (j : ℕ) → is_running (v.progress j) ≡ true → is_running (u.progress j) ≡ true
  pub finishes : finish plan xs u ≡ v

-- whole segments one after another, each group's in any order
pub spelled : (plan : ℕ → Plan) (s0 : Store) (all : List ℕ) (xs : List ℕ) (u : State) → ((i : ℕ) → times i all ≤ 1) → Ready plan s0 all u → CoversAt xs u
    → ((l : ℕ) → u.owner l ≡ 0) → ((j : ℕ) → is_running (u.progress j) ≡ true → u.progress j ≡ Running (plan j))
    → ((j : ℕ) → times j xs ≤ cond (is_running (u.progress j)) 1 0)
    → Spelled plan u (turns plan u (spell plan u.store xs)) xs
spelled plan s0 all [] u one h c free whole runs = record {
  order = sym (append-nil _);
  redo = refl;
  store = refl;
  steps = sym (append-nil _);
  done = c;
  ended = λ j r. r;
  finishes = refl;
}
spelled plan s0 all (i ∷ xs) u one h c free whole runs =
    let n = steps_of (plan i) u.store in
    let v = turns plan u (repeat n i) in
    let s = store_after (plan i) u.store in
    let m = Covers-head i xs u.progress u.group u.later c h.settled running in
    let z = came plan i (plan i) u alone m (whole i running) in
    let c' = Covers-drop i xs v.progress v.group v.later
    (turns-keeps plan (CoversAt (i ∷ xs)) (λ t j k. turn-covers plan (i ∷ xs) t j k) (repeat n i) u c)
    (turns-ready plan s0 all u (repeat n i) h one).settled z.ended in
    let rec = spelled plan s0 all xs v one (turns-ready plan s0 all u (repeat n i) h one) c' z.free z.whole
    (λ j. left v z.still z.ended j (i == j) (eqb_tells i j)) in
    subst (λ (w : State). Spelled plan u w (i ∷ xs)) (ap (λ s. turns plan v (spell plan s xs)) z.store
    ∙ sym (turns-append plan u (repeat n i) (spell plan s xs)))
    (record {
      order = rec.order ∙ ap (λ x. x ++ xs) z.order ∙ append_assoc (u.past ++ u.done) (i ∷ []) xs;
      redo = rec.redo ∙ z.redo;
      store = rec.store ∙ ap (λ s. serial plan s xs) z.store;
      steps = rec.steps ∙ ap (λ s. v.steps ++ spell plan s xs) z.store ∙ ap (λ x. x ++ spell plan s xs) z.steps
          ∙ append_assoc u.steps (repeat n i) (spell plan s xs);
      done = rec.done;
      ended = λ j r. before v z.still z.ended j (i == j) (eqb_tells i j) (rec.ended j r);
      finishes = finish-entries plan i xs n u ∙ ap (finish plan xs) (ended-stays plan i (v.progress i) v z.ended) ∙ rec.finishes;
    })
  where
    self : ◌≡◌ {A = ℕ} (cond (i == i) 1 0) 1
    self = grind (arith, nat_tests)

    running : is_running (u.progress i) ≡ true
    running = at (is_running (u.progress i)) (runs i)
      where
        at : (b : Bool) → cond (i == i) 1 0 + times i xs ≤ cond b 1 0 → b ≡ true
        at true e = refl
        at false e = let k = self in absurd (omega arith)

    alone : Alone plan i u
    alone = record { owners = λ l. inl (free l); others = λ j ne r. whole j r }

    left : (v : State) → ((j : ℕ) → i ≢ j → is_running (v.progress j) ≡ is_running (u.progress j))
        → is_running (v.progress i) ≡ false → (j : ℕ) (c : Bool) → ((c ≡ true) × (i ≡ j)) ⊎ ((c ≡ false) × (i ≢ j))
        → times j xs ≤ cond (is_running (v.progress j)) 1 0
    left v still ended j true (inl z) =
        let a : times i xs ≡ 0 = none (runs i) in
        let b : times j xs ≡ 0 = ap (λ n. times n xs) (sym z.1) ∙ a in omega arith
      where
        none : cond (i == i) 1 0 + times i xs ≤ cond (is_running (u.progress i)) 1 0 → times i xs ≡ 0
        none e = let k = self in let r : ◌≡◌ {A = ℕ} (cond (is_running (u.progress i)) 1 0) 1 = ap {B = ℕ} (λ b. cond b 1 0) running in omega arith
    left v still ended j true (inr z) = cc
    left v still ended j false (inl z) = cc
    left v still ended j false (inr z) =
        let a : ◌≡◌ {A = ℕ} (cond (is_running (v.progress j)) 1 0) (cond (is_running (u.progress j)) 1 0) = ap {B = ℕ} (λ b. cond b 1 0) (still j z.1) in
        let b = runs j in omega arith

    before : (v : State) → ((j : ℕ) → i ≢ j → is_running (v.progress j) ≡ is_running (u.progress j))
        → is_running (v.progress i) ≡ false → (j : ℕ) (c : Bool) → ((c ≡ true) × (i ≡ j)) ⊎ ((c ≡ false) × (i ≢ j))
        → is_running (v.progress j) ≡ true → is_running (u.progress j) ≡ true
    before v still ended j true (inl z) r = let e : true ≡ false = sym r ∙ ap (λ n. is_running (v.progress n)) (sym z.1) ∙ ended in cc
    before v still ended j true (inr z) r = cc
    before v still ended j false (inl z) r = cc
    before v still ended j false (inr z) r = sym (still j z.1) ∙ r
