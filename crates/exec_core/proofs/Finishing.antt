-- A loop that finishes a group.
use Rattle.std.proofs.Common.{◌≡◌, ◌≢◌, ℕ, suc, zero, ◌+◌, ◌<◌, ◌≤◌, ◌==◌, Bool, true, false, ◌||◌, List, [], ◌∷◌, ◌++◌}
use Rattle.std.proofs.Common.{length, get_or, drop, refl, sym, ap, ◌∙◌, inl, inr, ◌⊎◌, arith}
use Rattle.std.proofs.lemmas.Bool.{or_right, or_from, or_parts}
use Rattle.std.proofs.lemmas.Bool.Decides.{eqb_tells}
use Rattle.std.proofs.lemmas.List.{drop_more, drop_all}
use Rattle.std.proofs.Common.{Option}
use Rattle.svc_api.specs.declared.action.Ending.TheVariants.{Reply}
use Rattle.svc_api.specs.Plan.{Plan}
use Rattle.aeg_base.specs.Store.{empty, Store}
use Rattle.exec_core.specs.declared.machine.Machine.{Machine}
use Rattle.exec_core.specs.States.{progress_of, whole_of, going}
use Rattle.exec_model.specs.Machine.{State, Progress, Ended, is_running, any_running, turn, finish, concat, next}
use Rattle.svc_api.specs.Orders.{mem}
use Rattle.exec_model.proofs.Basics.{mem-first}
use Rattle.exec_model.proofs.Executor.{finish-turn, finish-ended, turn-less}

pub mem_at : (xs : List ℕ) (k : ℕ) → k < length xs → mem (get_or xs k 0) xs ≡ true
mem_at [] k h = absurd (omega arith)
mem_at (x ∷ xs) zero h = mem-first x xs
mem_at (x ∷ xs) (suc k) h = or_right (x == get_or xs k 0) (mem (get_or xs k 0) xs) (mem_at xs k (omega arith))

-- one more step of the member at k
one-more : (plans : ℕ → Plan) (g : List ℕ) (k i : ℕ) (r : List ℕ) (u v : State) → k < length g → i ≡ get_or g k 0
    → u.group ≡ g → is_running (u.progress i) ≡ true → v ≡ turn plans u i
    → finish plans (drop k g ++ r) v ≡ finish plans (drop k g ++ r) u
one-more plans g k i r u v h e eg run ev =
    let d : drop k g ≡ i ∷ drop (k + 1) g = drop_more g k 0 h ∙ ap (λ x. x ∷ drop (k + 1) g) (sym e) in
    let m : mem i u.group ≡ true = ap (mem i) eg ∙ ap (λ x. mem x g) e ∙ mem_at g k h in
    ap (finish plans (drop k g ++ r)) ev ∙ ap (λ xs. finish plans (xs ++ r) (turn plans u i)) d
    ∙ sym (finish-turn plans i (drop (k + 1) g ++ r) u m run) ∙ sym (ap (λ xs. finish plans (xs ++ r) u) d)

-- on to the next member
skip-member : (plans : ℕ → Plan) (g : List ℕ) (k : ℕ) (r : List ℕ) (u : State) → k < length g
    → is_running (u.progress (get_or g k 0)) ≡ false → finish plans (drop (k + 1) g ++ r) u ≡ finish plans (drop k g ++ r) u
skip-member plans g k r u h n =
    sym (finish-ended plans (get_or g k 0 ∷ []) (drop (k + 1) g ++ r) u (λ j m. only j (get_or g k 0 == j) (eqb_tells (get_or g k 0) j) m))
    ∙ sym (ap (λ xs. finish plans (xs ++ r) u) (drop_more g k 0 h))
  where
    only : (j : ℕ) (c : Bool) → ((c ≡ true) × (get_or g k 0 ≡ j)) ⊎ ((c ≡ false) × (get_or g k 0 ≢ j)) → (c || false) ≡ true → is_running (u.progress j) ≡ false
    only j true (inl z) m = ap (λ x. is_running (u.progress x)) (sym z.1) ∙ n
    only j true (inr z) m = cc
    only j false z m = cc

none_at : (q : ℕ → Progress) (xs : List ℕ) → ((k : ℕ) → k < length xs → is_running (q (get_or xs k 0)) ≡ false) → any_running q xs ≡ false
none_at q [] h = refl
none_at q (x ∷ xs) h = or_from (is_running (q x)) (any_running q xs) (h 0 (omega arith)) (none_at q xs (λ k l. h (suc k) (omega arith)))

pub none_of : (q : ℕ → Progress) (xs : List ℕ) (k : ℕ) → k < length xs → any_running q xs ≡ false → is_running (q (get_or xs k 0)) ≡ false
none_of q [] k h e = absurd (omega arith)
none_of q (x ∷ xs) zero h e = (or_parts (is_running (q x)) (any_running q xs) e).0
none_of q (x ∷ xs) (suc k) h e = none_of q xs k (omega arith) (or_parts (is_running (q x)) (any_running q xs) e).1

stays-ended : (plans : ℕ → Plan) (u v : State) (i j : ℕ) → v ≡ turn plans u i → is_running (u.progress j) ≡ false → is_running (v.progress j) ≡ false
stays-ended plans u v i j e n = at (is_running (v.progress j)) refl
  where
    at : (c : Bool) → is_running (v.progress j) ≡ c → c ≡ false
    at false r = refl
    at true r = let z : true ≡ false = sym (turn-less plans u i j (sym (ap (λ (x : State). is_running (x.progress j)) e) ∙ r)) ∙ n in cc

going-progress : {P : Type 0} (plan : P → Option ℕ → Plan) (m : Machine P) (s b : Store) (over : Bool) (t : State)
    → (going plan m s b over t).progress ≡ progress_of plan m.slots.items
going-progress plan m s b true t = refl
going-progress plan m s b false t = refl

true_or_false : (b : Bool) → (b ≡ true) ⊎ (b ≡ false)
true_or_false true = inl refl
true_or_false false = inr refl

-- any state whose group is this
abbrev pub some_state : List ℕ → State
some_state g = record {
  store = empty;
  owner = λ l. 0;
  progress = λ j. Ended (Reply []);
  base = empty;
  past = [];
  group = g;
  done = [];
  later = [];
  redo = 0;
  steps = [];
}

-- what a group comes to from member k on, and that none before it runs unless the group is over
pub record Finishes {P : Type 0} (plan : P → Option ℕ → Plan) (plans : ℕ → Plan) (g : List ℕ) (k : ℕ) (m m' : Machine P)
    (s b s' b' : Store) (over : Bool) : Type 0 where
  pub same : (t : State) → t.group ≡ g → finish plans (drop k g ++ concat t.later) (going plan m' s' b' over t)
      ≡ finish plans (g ++ concat t.later) (whole_of plan m s b t)
  pub before : over ≡ false → (j : ℕ) → j < k → is_running (progress_of plan m'.slots.items (get_or g j 0)) ≡ false

-- after one more turn of member k
pub finishes_more : {P : Type 0} {plan : P → Option ℕ → Plan} {plans : ℕ → Plan} {g : List ℕ} {k : ℕ} {m m' : Machine P}
    {s b s' b' : Store} {over : Bool} (m'' : Machine P) (s'' b'' : Store) (over' : Bool)
    → Finishes plan plans g k m m' s b s' b' over → over ≡ false → k < length g → is_running (progress_of plan m'.slots.items (get_or g k 0)) ≡ true
    → ((t : State) → t.group ≡ g → going plan m'' s'' b'' over' t ≡ turn plans (whole_of plan m' s' b' t) (get_or g k 0))
    → Finishes plan plans g k m m'' s b s'' b'' over'
finishes_more {plan = plan} {plans = plans} {g = g} {k = k} {m' = m'} {s' = s'} {b' = b'} {over = over} m'' s'' b'' over' h still lt run goes = record {
  same = λ t e.
      one-more plans g k (get_or g k 0) (concat t.later) (whole_of plan m' s' b' t) (going plan m'' s'' b'' over' t) lt refl e run (goes t e)
      ∙ ap (λ o. finish plans (drop k g ++ concat t.later) (going plan m' s' b' o t)) (sym still)
      ∙ h.same t e;
  before = λ o j l.
      let u = some_state g in
      let v : whole_of plan m'' s'' b'' u ≡ turn plans (whole_of plan m' s' b' u) (get_or g k 0) = ap (λ o. going plan m'' s'' b'' o u) (sym o) ∙ goes u refl in
      stays-ended plans (whole_of plan m' s' b' u) (whole_of plan m'' s'' b'' u) (get_or g k 0) (get_or g j 0) v (h.before still j l);
}

-- once member k has stopped
pub finishes_next : {P : Type 0} {plan : P → Option ℕ → Plan} {plans : ℕ → Plan} {g : List ℕ} {k : ℕ} {m m' : Machine P} {s b s' b' : Store} {over : Bool}
    → Finishes plan plans g k m m' s b s' b' over → k < length g
    → is_running (progress_of plan m'.slots.items (get_or g k 0)) ≡ false → Finishes plan plans g (k + 1) m m' s b s' b' over
finishes_next {plan = plan} {plans = plans} {g = g} {k = k} {m' = m'} {s' = s'} {b' = b'} {over = over} h lt stopped = record {
  same = λ t e.
      skip-member plans g k (concat t.later) (going plan m' s' b' over t) lt
      (ap (λ q. is_running (q (get_or g k 0))) (going-progress plan m' s' b' over t) ∙ stopped) ∙ h.same t e;
  before = λ o j l. elim (two j k l) [ inl z ↦ h.before o j z | inr z ↦ ap (λ n. is_running (progress_of plan m'.slots.items (get_or g n 0))) z ∙ stopped ];
}
  where
    two : (j k : ℕ) → j < k + 1 → (j < k) ⊎ (j ≡ k)
    two j k l = grind arith

-- behind the last member the group is over
pub finishes_all : {P : Type 0} {plan : P → Option ℕ → Plan} {plans : ℕ → Plan} {g : List ℕ} {k : ℕ} {m m' : Machine P} {s b s' b' : Store} {over : Bool}
    → Finishes plan plans g k m m' s b s' b' over → (over ≡ false → any_running (progress_of plan m'.slots.items) g ≡ true) → length g ≤ k
    → (t : State) → t.group ≡ g → finish plans (concat t.later) (next (whole_of plan m' s' b' t)) ≡ finish plans (g ++ concat t.later) (whole_of plan m s b t)
finishes_all {plan = plan} {plans = plans} {g = g} {k = k} {m' = m'} {s' = s'} {b' = b'} {over = over} h runs far t e =
    ap (λ ys. finish plans (ys ++ concat t.later) (going plan m' s' b' true t)) (sym (drop_all k g far))
    ∙ ap (λ o. finish plans (drop k g ++ concat t.later) (going plan m' s' b' o t)) (sym (is_over (true_or_false over)))
    ∙ h.same t e
  where
    is_over : (over ≡ true) ⊎ (over ≡ false) → over ≡ true
    is_over (inl z) = z
    is_over (inr z) =
        let n = none_at (progress_of plan m'.slots.items) g (λ j l. h.before z j (omega arith)) in
        let r : true ≡ false = sym (runs z) ∙ n in absurd (cc)
