-- What the machine holds of numbers that no segment has doesn't matter.
use Rattle.std.proofs.Common.{◌≡◌, ◌≢◌, ℕ, zero, suc, ◌+◌, ◌<◌, ◌≤◌, ◌==◌, Bool, true, false, ◌||◌, List, [], ◌∷◌, ◌++◌}
use Rattle.std.proofs.Common.{map, unwrap_or, refl, sym, ap, subst, ◌∙◌, inl, inr, ◌⊎◌, cond, arith}
use Rattle.std.specs.Prelude.{nat_lt}
use Rattle.std.proofs.lemmas.Bool.Decides.{nat_tests, eqb_tells}
use Rattle.aeg_base.specs.Store.{Store, value_at, written}
use Rattle.aeg_base.specs.Locks.{lock_number}
use Rattle.aeg_base.specs.declared.names.Key.{Key}
use Rattle.svc_api.specs.Plan.{Plan, Reads, Writes, Ends}
use Rattle.exec_model.specs.Serial.{serial_end}
use Rattle.exec_model.specs.Machine.{State, Progress, Running, Ended, update, any_running, is_running, end_of, or_ended}
use Rattle.exec_model.specs.Machine.{concat, next, settle, again, touch, leave, act, turn, turns, go_on, finish_one}
use Rattle.exec_model.specs.Machine.{finish, complete}
use Rattle.svc_api.specs.Orders.{mem}
use Rattle.exec_model.specs.Groups.{times, IsOrder}
use Rattle.exec_model.specs.Jobs.{said_nothing, below, run_of}
use Rattle.exec_model.proofs.Basics.{mem-first, times-mem, times-append, serial_end-none, times-not_mem}
use Rattle.exec_model.proofs.Ready.{Ready, turn-ready, turns-ready}
use Rattle.exec_model.proofs.Finish.{finish_one-keeps}

abbrev pub cut_at : ℕ → (ℕ → Progress) → ℕ → Progress
cut_at n q = λ i. cond (nat_lt i n) (q i) (Ended said_nothing)

abbrev pub cut : ℕ → State → State
cut n t = record t { progress = cut_at n t.progress }

-- each of these numbers is a segment's
abbrev AreSmall : ℕ → List ℕ → Type 0
AreSmall n xs = (j : ℕ) → mem j xs ≡ true → nat_lt j n ≡ true

self_cut : (n : ℕ) (q : ℕ → Progress) (i : ℕ) → nat_lt i n ≡ true → cut_at n q i ≡ q i
self_cut n q i h = ap (λ b. cond b (q i) (Ended said_nothing)) h

update_cut : (n : ℕ) (q : ℕ → Progress) (i : ℕ) (x : Progress) → nat_lt i n ≡ true → update (cut_at n q) i x ≡ cut_at n (update q i x)
update_cut n q i x h = λ k j. at j (i == j) (eqb_tells i j) k
  where
    at : (j : ℕ) (c : Bool) → ((c ≡ true) × (i ≡ j)) ⊎ ((c ≡ false) × (i ≢ j))
        → cond c x (cond (nat_lt j n) (q j) (Ended said_nothing)) ≡ cond (nat_lt j n) (cond c x (q j)) (Ended said_nothing)
    at j false z = refl
    at j true (inl z) = sym (ap (λ b. cond b x (Ended said_nothing)) (ap (λ k. nat_lt k n) (sym z.1) ∙ h))
    at j true (inr z) = cc

small_head : (n x : ℕ) (xs : List ℕ) → AreSmall n (x ∷ xs) → nat_lt x n ≡ true
small_head n x xs h = h x (mem-first x xs)

small_tail : (n x : ℕ) (xs : List ℕ) → AreSmall n (x ∷ xs) → AreSmall n xs
small_tail n x xs h j m = h j (right (x == j) m)
  where
    right : (b : Bool) → mem j xs ≡ true → (b || mem j xs) ≡ true
    right true e = refl
    right false e = e

running_cut : (n : ℕ) (q : ℕ → Progress) (xs : List ℕ) → AreSmall n xs → any_running (cut_at n q) xs ≡ any_running q xs
running_cut n q [] h = refl
running_cut n q (x ∷ xs) h =
    ap (λ p. is_running p || any_running (cut_at n q) xs) (self_cut n q x (small_head n x xs h))
    ∙ ap (λ b. is_running (q x) || b) (running_cut n q xs (small_tail n x xs h))

settle_cut : (n : ℕ) (t : State) → AreSmall n t.group → settle (cut n t) ≡ cut n (settle t)
settle_cut n t h = ap (λ c. cond c (cut n t) (next (cut n t))) (running_cut n t.progress t.group h) ∙ at (any_running t.progress t.group)
  where
    at : (c : Bool) → cond c (cut n t) (next (cut n t)) ≡ cut n (cond c t (next t))
    at true = refl
    at false = refl

again_cut : (n : ℕ) (plan : ℕ → Plan) (t : State) (i : ℕ) → AreSmall n t.group → again plan (cut n t) i ≡ cut n (again plan t i)
again_cut n plan t i h = λ k. record (again plan t i) { progress = λ j. at j (nat_lt j n) refl k }
  where
    out : (j : ℕ) → nat_lt j n ≡ false → (b : Bool) → mem j t.group ≡ b → b ≡ false
    out j l true m = let e : true ≡ false = sym (h j m) ∙ l in cc
    out j l false m = refl

    at : (j : ℕ) (b : Bool) → nat_lt j n ≡ b
        → or_ended (serial_end plan t.base t.group j) (cond b (t.progress j) (Ended said_nothing))
        ≡ cond b (or_ended (serial_end plan t.base t.group j) (t.progress j)) (Ended said_nothing)
    at j true l = refl
    at j false l = ap (λ o. or_ended o (Ended said_nothing)) (serial_end-none plan t.base t.group j (times-not_mem j t.group (out j l (mem j t.group) refl)))

abbrev grabbed : State → ℕ → ℕ → Store → (ℕ → Progress) → State
grabbed t i l s q = record t { store = s; owner = update t.owner l (i + 1); progress = q; steps = t.steps ++ i ∷ [] }

touch_cut : (n : ℕ) (plan : ℕ → Plan) (t : State) (i : ℕ) (k : Key) (s : Store) (p : Plan) → nat_lt i n ≡ true
    → AreSmall n t.group → touch plan (cut n t) i k s p ≡ cut n (touch plan t i k s p)
touch_cut n plan t i k s p l h = at ((t.owner (lock_number k) == 0) || (t.owner (lock_number k) == i + 1))
  where
    at : (c : Bool) → cond c (grabbed t i (lock_number k) s (update (cut_at n t.progress) i (Running p))) (again plan (cut n t) i)
        ≡ cut n (cond c (grabbed t i (lock_number k) s (update t.progress i (Running p))) (again plan t i))
    at true = ap (grabbed t i (lock_number k) s) (update_cut n t.progress i (Running p) l)
    at false = again_cut n plan t i h

-- the members of the group and of later ones are segments
touch_group : (plan : ℕ → Plan) (t : State) (i : ℕ) (k : Key) (s : Store) (p : Plan) → (touch plan t i k s p).group ≡ t.group
touch_group plan t i k s p = at ((t.owner (lock_number k) == 0) || (t.owner (lock_number k) == i + 1))
  where
    at : (c : Bool) → (cond c (grabbed t i (lock_number k) s (update t.progress i (Running p))) (again plan t i)).group ≡ t.group
    at true = refl
    at false = refl

small_touched : (n : ℕ) (plan : ℕ → Plan) (t : State) (i : ℕ) (k : Key) (s : Store) (p : Plan) → AreSmall n t.group → AreSmall n (touch plan t i k s p).group
small_touched n plan t i k s p h = subst (AreSmall n) (sym (touch_group plan t i k s p)) h

act_cut : (n : ℕ) (plan : ℕ → Plan) (t : State) (i : ℕ) (x : Progress) → nat_lt i n ≡ true → AreSmall n t.group
    → act plan (cut n t) i x ≡ cut n (act plan t i x)
act_cut n plan t i (Running (Reads k f)) l h =
    ap settle (touch_cut n plan t i k t.store (f (value_at t.store k)) l h)
    ∙ settle_cut n (touch plan t i k t.store (f (value_at t.store k)))
    (small_touched n plan t i k t.store (f (value_at t.store k)) h)
act_cut n plan t i (Running (Writes k v p)) l h =
    ap settle (touch_cut n plan t i k (written t.store k v) p l h)
    ∙ settle_cut n (touch plan t i k (written t.store k v) p) (small_touched n plan t i k (written t.store k v) p h)
act_cut n plan t i (Running (Ends e)) l h =
    ap settle (ap (λ (q : ℕ → Progress). record (leave t i e) { progress = q }) (update_cut n t.progress i (Ended e) l)) ∙ settle_cut n (leave t i e) h
act_cut n plan t i (Ended e) l h = refl

turn_cut : (n : ℕ) (plan : ℕ → Plan) (t : State) (i : ℕ) → AreSmall n t.group → turn plan (cut n t) i ≡ cut n (turn plan t i)
turn_cut n plan t i h = at (mem i t.group) refl
  where
    at : (c : Bool) → mem i t.group ≡ c → cond c (act plan (cut n t) i (cut_at n t.progress i)) (cut n t) ≡ cut n (cond c (act plan t i (t.progress i)) t)
    at false m = refl
    at true m = ap (act plan (cut n t) i) (self_cut n t.progress i (h i m)) ∙ act_cut n plan t i (t.progress i) (h i m) h

module _ (plan : ℕ → Plan) (s0 : Store) (all : List ℕ) (n : ℕ) (one : (i : ℕ) → times i all ≤ 1) (order : IsOrder n all) where
  small_group : (t : State) → Ready plan s0 all t → AreSmall n t.group
  small_group t h j m = at (nat_lt j n) (order j)
    where
      at : (b : Bool) → times j all ≡ cond b 1 0 → b ≡ true
      at true e = refl
      at false e = let p = h.inv.parts j in let z = times-mem j t.group m in absurd (omega arith)

  small_left : (t : State) → Ready plan s0 all t → AreSmall n (t.group ++ concat t.later)
  small_left t h j m = at (nat_lt j n) (order j)
    where
      at : (b : Bool) → times j all ≡ cond b 1 0 → b ≡ true
      at true e = refl
      at false e = let p = h.inv.parts j in let z = times-mem j (t.group ++ concat t.later) m in let a = times-append j
          t.group (concat t.later) in absurd (omega arith)

  turns_cut : (t : State) (is : List ℕ) → Ready plan s0 all t → turns plan (cut n t) is ≡ cut n (turns plan t is)
  turns_cut t [] h = refl
  turns_cut t (i ∷ is) h = ap (λ u. turns plan u is) (turn_cut n plan t i (small_group t h)) ∙ turns_cut (turn plan t i) is (turn-ready plan s0 all t i h one)

  went_on : (i : ℕ) (p : Plan) (t : State) → nat_lt i n ≡ true → turn plan (cut n t) i ≡ cut n (turn plan t i)
      → go_on plan i p (cut n (turn plan t i)) ≡ cut n (go_on plan i p (turn plan t i))
      → cond (is_running ((turn plan (cut n t) i).progress i)) (go_on plan i p (turn plan (cut n t) i))
      (turn plan (cut n t) i)
      ≡ cut n (cond (is_running ((turn plan t i).progress i)) (go_on plan i p (turn plan t i)) (turn plan t i))
  went_on i p t l e rec =
      ap (λ (u : State). cond (is_running (u.progress i)) (go_on plan i p u) u) e
      ∙ ap (λ x. cond (is_running x) (go_on plan i p (cut n (turn plan t i))) (cut n (turn plan t i))) (self_cut n (turn plan t i).progress i l)
      ∙ at (is_running ((turn plan t i).progress i))
    where
      at : (c : Bool) → cond c (go_on plan i p (cut n (turn plan t i))) (cut n (turn plan t i))
          ≡ cut n (cond c (go_on plan i p (turn plan t i)) (turn plan t i))
      at true = rec
      at false = refl

  go_on_cut : (i : ℕ) (p : Plan) (t : State) → nat_lt i n ≡ true → Ready plan s0 all t → go_on plan i p (cut n t) ≡ cut n (go_on plan i p t)
  go_on_cut i (Reads k f) t l h = went_on i (f (value_at t.store k)) t l (turn_cut n plan t i (small_group t h))
      (go_on_cut i (f (value_at t.store k)) (turn plan t i) l (turn-ready plan s0 all t i h one))
  go_on_cut i (Writes k v p) t l h = went_on i p t l (turn_cut n plan t i (small_group t h))
      (go_on_cut i p (turn plan t i) l (turn-ready plan s0 all t i h one))
  go_on_cut i (Ends e) t l h = turn_cut n plan t i (small_group t h)

  finish_one_cut : (i : ℕ) (x : Progress) (t : State) → nat_lt i n ≡ true → Ready plan s0 all t → finish_one plan i x (cut n t) ≡ cut n (finish_one plan i x t)
  finish_one_cut i (Running p) t l h = go_on_cut i p t l h
  finish_one_cut i (Ended e) t l h = refl

  finish_cut : (is : List ℕ) (t : State) → AreSmall n is → Ready plan s0 all t → finish plan is (cut n t) ≡ cut n (finish plan is t)
  finish_cut [] t small h = refl
  finish_cut (i ∷ is) t small h =
      let l = small_head n i is small in
      ap (λ x. finish plan is (finish_one plan i x (cut n t))) (self_cut n t.progress i l)
      ∙ ap (finish plan is) (finish_one_cut i (t.progress i) t l h)
      ∙ finish_cut is (finish_one plan i (t.progress i) t) (small_tail n i is small)
      (finish_one-keeps plan (Ready plan s0 all) (λ t i h. turn-ready plan s0 all t i h one) i (t.progress i) t h)

  -- a run from a state that holds nothing of other numbers is the run, but for them
  pub complete_cut : (t : State) (schedule : List ℕ) → Ready plan s0 all t
      → complete plan (turns plan (cut n t) schedule) ≡ cut n (complete plan (turns plan t schedule))
  complete_cut t schedule h =
      let u = turns plan t schedule in
      let ready = turns-ready plan s0 all t schedule h one in
      ap (complete plan) (turns_cut t schedule h) ∙ finish_cut (u.group ++ concat u.later) u (small_left u ready) ready

-- the ends of the segments are those of the run
pub ends_cut : (n m : ℕ) (q : ℕ → Progress) → m ≤ n
    → map (λ i. unwrap_or (end_of (cut_at n q i)) said_nothing) (below m)
    ≡ map (λ i. unwrap_or (end_of (q i)) said_nothing) (below m)
ends_cut n zero q le = refl
ends_cut n (suc m) q le =
    map-append (λ i. unwrap_or (end_of (cut_at n q i)) said_nothing) (below m) (m ∷ [])
    ∙ ap (λ xs. xs ++ unwrap_or (end_of (cut_at n q m)) said_nothing ∷ []) (ends_cut n m q (omega arith))
    ∙ ap (λ x. map (λ i. unwrap_or (end_of (q i)) said_nothing) (below m) ++ unwrap_or (end_of x) said_nothing ∷ [])
    (self_cut n q m (let lt : m < n = omega arith in grind (arith, nat_tests)))
    ∙ sym (map-append (λ i. unwrap_or (end_of (q i)) said_nothing) (below m) (m ∷ []))
  where
    map-append : {B : Type 0} (f : ℕ → B) (xs ys : List ℕ) → map f (xs ++ ys) ≡ map f xs ++ map f ys
    map-append f [] ys = refl
    map-append f (x ∷ xs) ys = ap (λ zs. f x ∷ zs) (map-append f xs ys)

pub run_of_cut : (n : ℕ) (t : State) → run_of n (cut n t) ≡ run_of n t
run_of_cut n t = λ k. record { steps = t.steps; order = t.past; redo = t.redo; store = t.store; ends = ends_cut n n t.progress (omega arith) k }
