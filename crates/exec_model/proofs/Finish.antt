-- The run ends, and the steps that it made are a schedule of the same run.
use Rattle.std.proofs.Common.{◌≡◌, ◌≢◌, ℕ, ◌+◌, ◌≤◌, ◌==◌, Bool, true, false, ◌||◌, List, [], ◌∷◌, ◌++◌, Option, Some}
use Rattle.std.proofs.Common.{None, refl, sym, ap, ◌∙◌, inl, inr, ◌⊎◌, cond, append_assoc}
use Rattle.std.proofs.lemmas.Bool.{or_right, false_from_ne_true, or_cases}
use Rattle.std.proofs.lemmas.Bool.Decides.{eqb_tells}
use Rattle.aeg_base.specs.declared.names.Key.{Key}
use Rattle.aeg_base.specs.Store.{Store, value_at, written}
use Rattle.aeg_base.specs.Locks.{lock_number}
use Rattle.svc_api.specs.declared.action.Ending.{Ending}
use Rattle.svc_api.specs.Plan.{Plan, Reads, Writes, Ends}
use Rattle.exec_model.specs.Serial.{serial_end}
use Rattle.exec_model.specs.Machine.{next, State, update, any_running, is_running, or_ended, concat, Progress, Running}
use Rattle.exec_model.specs.Machine.{Ended, settle, again, touch, leave, act, turn, turns, go_on, finish_one, finish}
use Rattle.svc_api.specs.Orders.{mem}
use Rattle.exec_model.specs.Groups.{times}
use Rattle.exec_model.specs.Spell.{AreSame}
use Rattle.exec_model.proofs.Basics.{mem-first, times-mem, serial_end-some}
use Rattle.exec_model.proofs.Inv.{head_of, tail_of, any_running-false, concat-split}
use Rattle.exec_model.proofs.Ready.{Ready, Settled, turn-ready}

-- what each turn keeps, a run to the end keeps
pub go_on-keeps : (plan : ℕ → Plan) (P : State → Type 0) → ((t : State) (i : ℕ) → P t → P (turn plan t i))
    → (i : ℕ) (p : Plan) (t : State) → P t → P (go_on plan i p t)
go_on-keeps plan P step i (Reads k f) t h = at (is_running ((turn plan t i).progress i))
    (go_on-keeps plan P step i (f (value_at t.store k)) (turn plan t i) (step t i h))
  where
    at : (c : Bool) → P (go_on plan i (f (value_at t.store k)) (turn plan t i))
        → P (cond c (go_on plan i (f (value_at t.store k)) (turn plan t i)) (turn plan t i))
    at true r = r
    at false r = step t i h
go_on-keeps plan P step i (Writes k v p) t h = at (is_running ((turn plan t i).progress i)) (go_on-keeps plan P step i p (turn plan t i) (step t i h))
  where
    at : (c : Bool) → P (go_on plan i p (turn plan t i)) → P (cond c (go_on plan i p (turn plan t i)) (turn plan t i))
    at true r = r
    at false r = step t i h
go_on-keeps plan P step i (Ends e) t h = step t i h

pub finish_one-keeps : (plan : ℕ → Plan) (P : State → Type 0) → ((t : State) (i : ℕ) → P t → P (turn plan t i))
    → (i : ℕ) (x : Progress) (t : State) → P t → P (finish_one plan i x t)
finish_one-keeps plan P step i (Running p) t h = go_on-keeps plan P step i p t h
finish_one-keeps plan P step i (Ended e) t h = h

pub finish-keeps : (plan : ℕ → Plan) (P : State → Type 0) → ((t : State) (i : ℕ) → P t → P (turn plan t i))
    → (is : List ℕ) (t : State) → P t → P (finish plan is t)
finish-keeps plan P step [] t h = h
finish-keeps plan P step (i ∷ is) t h = finish-keeps plan P step is _ (finish_one-keeps plan P step i (t.progress i) t h)

pub turns-keeps : (plan : ℕ → Plan) (P : State → Type 0) → ((t : State) (i : ℕ) → P t → P (turn plan t i))
    → (is : List ℕ) (t : State) → P t → P (turns plan t is)
turns-keeps plan P step [] t h = h
turns-keeps plan P step (i ∷ is) t h = turns-keeps plan P step is (turn plan t i) (step t i h)

pub settle-steps : (t : State) → (settle t).steps ≡ t.steps
settle-steps t = at (any_running t.progress t.group)
  where
    at : (c : Bool) → (cond c t (next t)).steps ≡ t.steps
    at true = refl
    at false = refl

pub touch-steps : (plan : ℕ → Plan) (t : State) (i : ℕ) (k : Key) (s : Store) (p : Plan) → (touch plan t i k s p).steps ≡ t.steps ++ i ∷ []
touch-steps plan t i k s p = at ((t.owner (lock_number k) == 0) || (t.owner (lock_number k) == i + 1))
  where
    at : (c : Bool) → (cond c (record t {
      store = s;
      owner = update t.owner (lock_number k) (i + 1);
      progress = update t.progress i (Running p);
      steps = t.steps ++ i ∷ [];
    }) (again plan t i)).steps ≡ t.steps ++ i ∷ []
    at true = refl
    at false = refl

act-steps : (plan : ℕ → Plan) (t : State) (i : ℕ) (x : Progress) → (act plan t i x ≡ t) ⊎ ((act plan t i x).steps ≡ t.steps ++ i ∷ [])
act-steps plan t i (Running (Reads k f)) = inr (settle-steps (touch plan t i k t.store (f (value_at t.store k)))
    ∙ touch-steps plan t i k t.store (f (value_at t.store k)))
act-steps plan t i (Running (Writes k v p)) = inr (settle-steps (touch plan t i k (written t.store k v) p) ∙ touch-steps plan t i k (written t.store k v) p)
act-steps plan t i (Running (Ends e)) = inr (settle-steps (leave t i e))
act-steps plan t i (Ended e) = inl refl

turn-steps : (plan : ℕ → Plan) (t : State) (i : ℕ) → (turn plan t i ≡ t) ⊎ ((turn plan t i).steps ≡ t.steps ++ i ∷ [])
turn-steps plan t i = at (mem i t.group)
  where
    at : (c : Bool) → (cond c (act plan t i (t.progress i)) t ≡ t) ⊎ ((cond c (act plan t i (t.progress i)) t).steps ≡ t.steps ++ i ∷ [])
    at true = act-steps plan t i (t.progress i)
    at false = inl refl

pub turns-append : (plan : ℕ → Plan) (t : State) (xs ys : List ℕ) → turns plan t (xs ++ ys) ≡ turns plan (turns plan t xs) ys
turns-append plan t [] ys = refl
turns-append plan t (x ∷ xs) ys = turns-append plan (turn plan t x) xs ys

-- the steps made so far lead here
abbrev pub Replays : (ℕ → Plan) → State → State → Type 0
Replays plan t0 t = turns plan t0 t.steps ≡ t

pub turn-replays : (plan : ℕ → Plan) (t0 t : State) (i : ℕ) → Replays plan t0 t → Replays plan t0 (turn plan t i)
turn-replays plan t0 t i h = elim (turn-steps plan t i) [
  | inl e ↦ ap (λ x. turns plan t0 x.steps) e ∙ h ∙ sym e
  | inr e ↦ ap (turns plan t0) e ∙ turns-append plan t0 t.steps (i ∷ []) ∙ ap (λ x. turn plan x i) h
]

-- the segments xs cover what is left to do, group by group, those of a group in any order
pub record Covers (xs : List ℕ) (q : ℕ → Progress) (group : List ℕ) (later : List (List ℕ)) : Type 0 where
  pub now : List ℕ
  pub rest : List (List ℕ)
  pub all : xs ≡ now ++ concat rest
  pub match : AreSame rest later
  pub run_in : (j : ℕ) → mem j group ≡ true → is_running (q j) ≡ true → mem j now ≡ true
  pub from : (j : ℕ) → mem j now ≡ true → (mem j group ≡ true) ⊎ (is_running (q j) ≡ false)

pub AreSame-head : (os gs : List (List ℕ)) → AreSame os gs → (j : ℕ) → mem j (head_of os) ≡ mem j (head_of gs)
AreSame-head [] [] h j = refl
AreSame-head (o ∷ os) (g ∷ gs) h j = h.0 j
AreSame-head [] (g ∷ gs) h j = absurd h
AreSame-head (o ∷ os) [] h j = absurd h

pub AreSame-tail : (os gs : List (List ℕ)) → AreSame os gs → AreSame (tail_of os) (tail_of gs)
AreSame-tail [] [] h = h
AreSame-tail (o ∷ os) (g ∷ gs) h = h.1
AreSame-tail [] (g ∷ gs) h = absurd h
AreSame-tail (o ∷ os) [] h = absurd h

AreSame-empty : (os gs : List (List ℕ)) → AreSame os gs → gs ≡ [] → concat os ≡ []
AreSame-empty [] gs h e = refl
AreSame-empty (o ∷ os) [] h e = absurd h
AreSame-empty (o ∷ os) (g ∷ gs) h e = cc

pub AreSame-refl : (gs : List (List ℕ)) → AreSame gs gs
AreSame-refl [] = tt
AreSame-refl (g ∷ gs) = (λ j. refl, AreSame-refl gs)

pub mem-append : (j : ℕ) (xs ys : List ℕ) → mem j (xs ++ ys) ≡ (mem j xs || mem j ys)
mem-append j [] ys = refl
mem-append j (x ∷ xs) ys = at (x == j) (mem-append j xs ys)
  where
    at : (c : Bool) → mem j (xs ++ ys) ≡ (mem j xs || mem j ys) → (c || mem j (xs ++ ys)) ≡ ((c || mem j xs) || mem j ys)
    at true h = refl
    at false h = h

Covers-less : (xs : List ℕ) (q q' : ℕ → Progress) (g : List ℕ) (l : List (List ℕ)) → Covers xs q g l
    → ((j : ℕ) → is_running (q' j) ≡ true → is_running (q j) ≡ true) → Covers xs q' g l
Covers-less xs q q' g l h less = record {
  now = h.now;
  rest = h.rest;
  all = h.all;
  match = h.match;
  run_in = λ j m r. h.run_in j m (less j r);
  from = λ j m. elim (h.from j m) [ inl z ↦ inl z | inr z ↦ inr (false_from_ne_true _ (λ r. let e : true ≡ false = sym (less j r) ∙ z in cc)) ];
}

Covers-next : (xs : List ℕ) (q : ℕ → Progress) (g : List ℕ) (l : List (List ℕ)) → Covers xs q g l
    → any_running q g ≡ false → Covers xs q (head_of l) (tail_of l)
Covers-next xs q g l h none = record {
  now = h.now ++ head_of h.rest;
  rest = tail_of h.rest;
  all = h.all ∙ ap (λ x. h.now ++ x) (concat-split h.rest) ∙ sym (append_assoc h.now (head_of h.rest) (concat (tail_of h.rest)));
  match = AreSame-tail h.rest l h.match;
  run_in = λ j m r. mem-append j h.now (head_of h.rest) ∙ or_right _ _ (AreSame-head h.rest l h.match j ∙ m);
  from = λ j m. elim (or_cases _ _ (sym (mem-append j h.now (head_of h.rest)) ∙ m)) [
    | inl z ↦ elim (h.from j z) [ inl y ↦ inr (any_running-false q g none j y) | inr y ↦ inr y ]
    | inr z ↦ inl (sym (AreSame-head h.rest l h.match j) ∙ z)
  ];
}

abbrev pub CoversAt : List ℕ → State → Type 0
CoversAt xs t = Covers xs t.progress t.group t.later

settle-covers : (xs : List ℕ) (t : State) → CoversAt xs t → CoversAt xs (settle t)
settle-covers xs t h = at (any_running t.progress t.group) refl
  where
    at : (c : Bool) → any_running t.progress t.group ≡ c → CoversAt xs (cond c t (next t))
    at true e = h
    at false e = Covers-next xs t.progress t.group t.later h e

pub again-less : (o : Option Ending) (x : Progress) → is_running (or_ended o x) ≡ true → is_running x ≡ true
again-less None x h = h
again-less (Some e) x h = cc

pub update-less : (q : ℕ → Progress) (i : ℕ) (x : Progress) (j : ℕ) → is_running (q i) ≡ true → is_running (update q i x j) ≡ true → is_running (q j) ≡ true
update-less q i x j r h = at (i == j) (eqb_tells i j) h
  where
    at : (c : Bool) → ((c ≡ true) × (i ≡ j)) ⊎ ((c ≡ false) × (i ≢ j)) → is_running (cond c x (q j)) ≡ true → is_running (q j) ≡ true
    at true (inl z) h = ap (λ n. is_running (q n)) (sym z.1) ∙ r
    at true (inr z) h = cc
    at false z h = h

touch-covers : (plan : ℕ → Plan) (xs : List ℕ) (t : State) (i : ℕ) (k : Key) (s : Store) (p : Plan)
    → is_running (t.progress i) ≡ true → CoversAt xs t → CoversAt xs (touch plan t i k s p)
touch-covers plan xs t i k s p r h = at ((t.owner (lock_number k) == 0) || (t.owner (lock_number k) == i + 1))
  where
    at : (c : Bool) → CoversAt xs
        (cond c (record t {
          store = s;
          owner = update t.owner (lock_number k) (i + 1);
          progress = update t.progress i (Running p);
          steps = t.steps ++ i ∷ [];
        }) (again plan t i))
    at true = Covers-less xs t.progress (update t.progress i (Running p)) t.group t.later h (λ j. update-less t.progress i (Running p) j r)
    at false = Covers-less xs t.progress (λ j. or_ended (serial_end plan t.base t.group j) (t.progress j)) t.group t.later h (λ j. again-less _ _)

act-covers : (plan : ℕ → Plan) (xs : List ℕ) (t : State) (i : ℕ) (x : Progress) → t.progress i ≡ x → CoversAt xs t → CoversAt xs (act plan t i x)
act-covers plan xs t i (Running (Reads k f)) r h = settle-covers xs (touch plan t i k t.store (f (value_at t.store k)))
    (touch-covers plan xs t i k t.store (f (value_at t.store k)) (ap is_running r) h)
act-covers plan xs t i (Running (Writes k v p)) r h = settle-covers xs (touch plan t i k (written t.store k v) p)
    (touch-covers plan xs t i k (written t.store k v) p (ap is_running r) h)
act-covers plan xs t i (Running (Ends e)) r h = settle-covers xs (leave t i e)
    (Covers-less xs t.progress (update t.progress i (Ended e)) t.group t.later h
    (λ j. update-less t.progress i (Ended e) j (ap is_running r)))
act-covers plan xs t i (Ended e) r h = h

pub turn-covers : (plan : ℕ → Plan) (xs : List ℕ) (t : State) (i : ℕ) → CoversAt xs t → CoversAt xs (turn plan t i)
turn-covers plan xs t i h = at (mem i t.group)
  where
    at : (c : Bool) → CoversAt xs (cond c (act plan t i (t.progress i)) t)
    at true = act-covers plan xs t i (t.progress i) refl h
    at false = h

pub settle-progress : (t : State) → (settle t).progress ≡ t.progress
settle-progress t = at (any_running t.progress t.group)
  where
    at : (c : Bool) → (cond c t (next t)).progress ≡ t.progress
    at true = refl
    at false = refl

pub turn_is : (plan : ℕ → Plan) (t : State) (i : ℕ) (x : Progress) → mem i t.group ≡ true → t.progress i ≡ x → turn plan t i ≡ act plan t i x
turn_is plan t i x m r = ap (λ c. cond c (act plan t i (t.progress i)) t) m ∙ ap (act plan t i) r

pub update-own : (q : ℕ → Progress) (i : ℕ) (x : Progress) → update q i x i ≡ x
update-own q i x = at (i == i) (eqb_tells i i)
  where
    at : (c : Bool) → ((c ≡ true) × (i ≡ i)) ⊎ ((c ≡ false) × (i ≢ i)) → cond c x (q i) ≡ x
    at true z = refl
    at false (inl z) = cc
    at false (inr z) = absurd (z.1 refl)

ended_not_running : (o : Option Ending) (x : Progress) (e : Ending) → o ≡ Some e → is_running (or_ended o x) ≡ true → ⊥
ended_not_running None x e h r = cc
ended_not_running (Some y) x e h r = cc

touch-goes : (plan : ℕ → Plan) (t : State) (i : ℕ) (k : Key) (s : Store) (p : Plan) → mem i t.group ≡ true
    → is_running ((touch plan t i k s p).progress i) ≡ true → (touch plan t i k s p).progress i ≡ Running p
touch-goes plan t i k s p m = at ((t.owner (lock_number k) == 0) || (t.owner (lock_number k) == i + 1))
  where
    at : (c : Bool) → is_running
        ((cond c (record t {
          store = s;
          owner = update t.owner (lock_number k) (i + 1);
          progress = update t.progress i (Running p);
          steps = t.steps ++ i ∷ [];
        }) (again plan t i)).progress i) ≡ true
        → (cond c (record t {
          store = s;
          owner = update t.owner (lock_number k) (i + 1);
          progress = update t.progress i (Running p);
          steps = t.steps ++ i ∷ [];
        }) (again plan t i)).progress i ≡ Running p
    at true r = update-own t.progress i (Running p)
    at false r = let z = serial_end-some plan t.base t.group i (times-mem i t.group m) in absurd
        (ended_not_running (serial_end plan t.base t.group i) (t.progress i) z.0 z.1 r)

pub turn-reads : (plan : ℕ → Plan) (t : State) (i : ℕ) (k : Key) (f : ℕ → Plan) → mem i t.group ≡ true
    → t.progress i ≡ Running (Reads k f) → is_running ((turn plan t i).progress i) ≡ true
    → (turn plan t i).progress i ≡ Running (f (value_at t.store k))
turn-reads plan t i k f m r h =
    let e : (turn plan t i).progress i ≡ (touch plan t i k t.store (f (value_at t.store k))).progress i = ap
    (λ x. x.progress i) (turn_is plan t i (Running (Reads k f)) m r)
    ∙ ap (λ q. q i) (settle-progress (touch plan t i k t.store (f (value_at t.store k)))) in
    e ∙ touch-goes plan t i k t.store (f (value_at t.store k)) m (sym (ap is_running e) ∙ h)

pub turn-writes : (plan : ℕ → Plan) (t : State) (i : ℕ) (k : Key) (v : ℕ) (p : Plan) → mem i t.group ≡ true
    → t.progress i ≡ Running (Writes k v p) → is_running ((turn plan t i).progress i) ≡ true
    → (turn plan t i).progress i ≡ Running p
turn-writes plan t i k v p m r h =
    let e : (turn plan t i).progress i ≡ (touch plan t i k (written t.store k v) p).progress i = ap (λ x. x.progress i)
    (turn_is plan t i (Running (Writes k v p)) m r)
    ∙ ap (λ q. q i) (settle-progress (touch plan t i k (written t.store k v) p)) in
    e ∙ touch-goes plan t i k (written t.store k v) p m (sym (ap is_running e) ∙ h)

pub turn-ends : (plan : ℕ → Plan) (t : State) (i : ℕ) (x : Ending) → mem i t.group ≡ true
    → t.progress i ≡ Running (Ends x) → is_running ((turn plan t i).progress i) ≡ false
turn-ends plan t i x m r =
    ap (λ y. is_running (y.progress i)) (turn_is plan t i (Running (Ends x)) m r)
    ∙ ap (λ q. is_running (q i)) (settle-progress (leave t i x)) ∙ ap is_running (update-own t.progress i (Ended x))

pub any_running-some : (q : ℕ → Progress) (xs : List ℕ) → any_running q xs ≡ true → (j : ℕ) × (mem j xs ≡ true) × (is_running (q j) ≡ true)
any_running-some q [] h = cc
any_running-some q (x ∷ xs) h = at (is_running (q x)) refl (any_running-some q xs) h
  where
    at : (c : Bool) → is_running (q x) ≡ c
        → (any_running q xs ≡ true → (j : ℕ) × (mem j xs ≡ true) × (is_running (q j) ≡ true))
        → (c || any_running q xs) ≡ true → (j : ℕ) × (mem j (x ∷ xs) ≡ true) × (is_running (q j) ≡ true)
    at true e rec h = (x, mem-first x xs, e)
    at false e rec h = let z = rec h in (z.0, or_right (x == z.0) (mem z.0 xs) z.1, z.2)

-- the first segment that is left is in the group, if it runs
pub Covers-head : (i : ℕ) (xs : List ℕ) (q : ℕ → Progress) (g : List ℕ) (l : List (List ℕ)) → Covers (i ∷ xs) q g l
    → Settled q g l → is_running (q i) ≡ true → mem i g ≡ true
Covers-head i xs q g l h s r = at h.now h.all h.run_in h.from
  where
    at : (now : List ℕ) → i ∷ xs ≡ now ++ concat h.rest
        → ((j : ℕ) → mem j g ≡ true → is_running (q j) ≡ true → mem j now ≡ true)
        → ((j : ℕ) → mem j now ≡ true → (mem j g ≡ true) ⊎ (is_running (q j) ≡ false)) → mem i g ≡ true
    at [] e run_in from = elim s [
      | inl a ↦ (let z = any_running-some q g a in let m = run_in z.0 z.1 z.2 in cc)
      | inr a ↦ (let b : concat h.rest ≡ [] = AreSame-empty h.rest l h.match a.1 in cc)
    ]
    at (y ∷ ys) e run_in from =
        let iy : i ≡ y = cc in
        let m : mem i (y ∷ ys) ≡ true = ap (λ n. (n == i) || mem i ys) (sym iy) ∙ mem-first i ys in
        elim (from i m) [ inl a ↦ a | inr a ↦ (let e : true ≡ false = sym r ∙ a in cc) ]

pub Covers-drop : (i : ℕ) (xs : List ℕ) (q : ℕ → Progress) (g : List ℕ) (l : List (List ℕ)) → Covers (i ∷ xs) q g l
    → Settled q g l → is_running (q i) ≡ false → Covers xs q g l
Covers-drop i xs q g l h s r = at h.now h.all h.run_in h.from
  where
    at : (now : List ℕ) → i ∷ xs ≡ now ++ concat h.rest
        → ((j : ℕ) → mem j g ≡ true → is_running (q j) ≡ true → mem j now ≡ true)
        → ((j : ℕ) → mem j now ≡ true → (mem j g ≡ true) ⊎ (is_running (q j) ≡ false)) → Covers xs q g l
    at [] e run_in from = elim s [
      | inl a ↦ (let z = any_running-some q g a in let m = run_in z.0 z.1 z.2 in cc)
      | inr a ↦ (let b : concat h.rest ≡ [] = AreSame-empty h.rest l h.match a.1 in cc)
    ]
    at (y ∷ ys) e run_in from = record {
      now = ys;
      rest = h.rest;
      all = cc;
      match = h.match;
      run_in = λ j m a. other j (y == j) (eqb_tells y j) a (run_in j m a);
      from = λ j m. from j (or_right (y == j) (mem j ys) m);
    }
      where
        iy : i ≡ y
        iy = cc

        other : (j : ℕ) (c : Bool) → ((c ≡ true) × (y ≡ j)) ⊎ ((c ≡ false) × (y ≢ j)) → is_running (q j) ≡ true → (c || mem j ys) ≡ true → mem j ys ≡ true
        other j true (inl z) a m = let e : true ≡ false = sym a ∙ ap (λ n. is_running (q n)) (sym z.1 ∙ sym iy) ∙ r in cc
        other j true (inr z) a m = cc
        other j false z a m = m

pub go_on-ends : (plan : ℕ → Plan) (s0 : Store) (all : List ℕ) (i : ℕ) (xs : List ℕ) (p : Plan) (t : State)
    → ((i : ℕ) → times i all ≤ 1) → Ready plan s0 all t → CoversAt (i ∷ xs) t → t.progress i ≡ Running p
    → is_running ((go_on plan i p t).progress i) ≡ false
go_on-ends plan s0 all i xs (Reads k f) t one h c r =
    at (is_running ((turn plan t i).progress i)) refl
    (λ e. go_on-ends plan s0 all i xs (f (value_at t.store k)) (turn plan t i) one (turn-ready plan s0 all t i h one)
    (turn-covers plan (i ∷ xs) t i c)
    (turn-reads plan t i k f (Covers-head i xs t.progress t.group t.later c h.settled (ap is_running r)) r e))
  where
    at : (c : Bool) → is_running ((turn plan t i).progress i) ≡ c
        → (is_running ((turn plan t i).progress i) ≡ true
        → is_running ((go_on plan i (f (value_at t.store k)) (turn plan t i)).progress i) ≡ false)
        → is_running ((cond c (go_on plan i (f (value_at t.store k)) (turn plan t i)) (turn plan t i)).progress i) ≡ false
    at true e rec = rec e
    at false e rec = e
go_on-ends plan s0 all i xs (Writes k v p) t one h c r =
    at (is_running ((turn plan t i).progress i)) refl
    (λ e. go_on-ends plan s0 all i xs p (turn plan t i) one (turn-ready plan s0 all t i h one)
    (turn-covers plan (i ∷ xs) t i c)
    (turn-writes plan t i k v p (Covers-head i xs t.progress t.group t.later c h.settled (ap is_running r)) r e))
  where
    at : (c : Bool) → is_running ((turn plan t i).progress i) ≡ c
        → (is_running ((turn plan t i).progress i) ≡ true → is_running ((go_on plan i p (turn plan t i)).progress i)
        ≡ false) → is_running ((cond c (go_on plan i p (turn plan t i)) (turn plan t i)).progress i) ≡ false
    at true e rec = rec e
    at false e rec = e
go_on-ends plan s0 all i xs (Ends x) t one h c r = turn-ends plan t i x (Covers-head i xs t.progress t.group t.later c h.settled (ap is_running r)) r

finish_one-ends : (plan : ℕ → Plan) (s0 : Store) (all : List ℕ) (i : ℕ) (xs : List ℕ) (x : Progress) (t : State)
    → ((i : ℕ) → times i all ≤ 1) → Ready plan s0 all t → CoversAt (i ∷ xs) t → t.progress i ≡ x
    → is_running ((finish_one plan i x t).progress i) ≡ false
finish_one-ends plan s0 all i xs (Running p) t one h c r = go_on-ends plan s0 all i xs p t one h c r
finish_one-ends plan s0 all i xs (Ended e) t one h c r = ap is_running r

pub finish-ends : (plan : ℕ → Plan) (s0 : Store) (all : List ℕ) (xs : List ℕ) (t : State) → ((i : ℕ) → times i all ≤ 1)
    → Ready plan s0 all t → CoversAt xs t → ((finish plan xs t).group ≡ []) × ((finish plan xs t).later ≡ [])
finish-ends plan s0 all [] t one h c = at c.now c.all c.run_in
  where
    at : (now : List ℕ) → [] ≡ now ++ concat c.rest
        → ((j : ℕ) → mem j t.group ≡ true → is_running (t.progress j) ≡ true → mem j now ≡ true) → (t.group ≡ []) × (t.later ≡ [])
    at [] e run_in = elim h.settled [ inl a ↦ (let z = any_running-some t.progress t.group a in let m = run_in z.0 z.1 z.2 in cc) | inr a ↦ a ]
    at (y ∷ ys) e run_in = cc
finish-ends plan s0 all (i ∷ xs) t one h c =
    let u = finish_one plan i (t.progress i) t in
    let ready = finish_one-keeps plan (Ready plan s0 all) (λ t i h. turn-ready plan s0 all t i h one) i (t.progress i) t h in
    let covers = finish_one-keeps plan (CoversAt (i ∷ xs)) (λ t j c. turn-covers plan (i ∷ xs) t j c) i (t.progress i) t c in
    finish-ends plan s0 all xs u one ready
    (Covers-drop i xs u.progress u.group u.later covers ready.settled
    (finish_one-ends plan s0 all i xs (t.progress i) t one h c refl))
