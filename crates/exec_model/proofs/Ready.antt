-- Each turn keeps the invariant, also where a group ends and the next begins.
use Rattle.std.proofs.Common.{◌≡◌, ℕ, ◌+◌, ◌<◌, ◌≤◌, ◌==◌, Bool, true, false, ◌||◌, List, [], ◌∷◌, ◌++◌, refl, sym, ap, subst, inl, inr, ◌⊎◌, cond, arith}
use Rattle.std.proofs.lemmas.Bool.Decides.{nat_tests}
use Rattle.aeg_base.specs.declared.names.Key.{Key}
use Rattle.aeg_base.specs.Store.{Store, value_at, written}
use Rattle.aeg_base.specs.Locks.{lock_number}
use Rattle.svc_api.specs.Plan.{Plan, Reads, Writes, Ends}
use Rattle.exec_model.specs.Serial.{serial}
use Rattle.exec_model.specs.Machine.{State, update, any_running, is_running, concat, Progress, Running, Ended, settle}
use Rattle.exec_model.specs.Machine.{next, again, touch, leave, act, turn, turns, start}
use Rattle.svc_api.specs.Orders.{mem}
use Rattle.exec_model.specs.Groups.{times, AreFull}
use Rattle.exec_model.proofs.Basics.{times-append}
use Rattle.exec_model.proofs.Lookups.{Lookup, looks, looks-written}
use Rattle.exec_model.proofs.Safe.{Safe, Safe-take, Safe-read, Safe-write, Safe-start}
use Rattle.exec_model.proofs.Inv.{Inv, Inv-grab, Inv-leave, Inv-again, Inv-next, head_of, tail_of}

-- a member of the group runs, or all groups have ended
abbrev pub Settled : (ℕ → Progress) → List ℕ → List (List ℕ) → Type 0
Settled q group later = (any_running q group ≡ true) ⊎ ((group ≡ []) × (later ≡ []))

pub record Ready (plan : ℕ → Plan) (s0 : Store) (all : List ℕ) (t : State) : Type 0 where
  pub inv : Inv plan s0 all t
  pub settled : Settled t.progress t.group t.later
  pub full : AreFull t.later

pub AreFull-tail : (gs : List (List ℕ)) → AreFull gs → AreFull (tail_of gs)
AreFull-tail [] h = h
AreFull-tail ([] ∷ gs) h = absurd h
AreFull-tail ((x ∷ xs) ∷ gs) h = h

next_settled : (q : ℕ → Progress) (gs : List (List ℕ)) → AreFull gs
    → ((j : ℕ) → 0 < times j (concat gs) → is_running (q j) ≡ true) → Settled q (head_of gs) (tail_of gs)
next_settled q [] f h = inr (refl, refl)
next_settled q ([] ∷ gs) f h = absurd f
next_settled q ((x ∷ xs) ∷ gs) f h = inl (ap (λ b. b || any_running q xs) (h x first))
  where
    same : (x == x) ≡ true
    same = grind (arith, nat_tests)

    first : 0 < times x (concat ((x ∷ xs) ∷ gs))
    first = let e : cond (x == x) 1 0 ≡ 1 = ap {B = ℕ} (λ b. cond b 1 0) same in omega (arith, e)

later_runs : (plan : ℕ → Plan) (s0 : Store) (all : List ℕ) (t : State) → Inv plan s0 all t → ((i : ℕ) → times i all ≤ 1)
    → (j : ℕ) → 0 < times j (concat t.later) → is_running (t.progress j) ≡ true
later_runs plan s0 all t h one j l = at (is_running (t.progress j)) (h.once j)
  where
    at : (c : Bool) → times j t.past + times j t.done ≡ cond c 0 1 → c ≡ true
    at true e = refl
    at false e = let a = h.parts j in let b = one j in let c = h.inside j in absurd (omega arith)

pub settle-ready : (plan : ℕ → Plan) (s0 : Store) (all : List ℕ) (t : State) → Inv plan s0 all t → AreFull t.later
    → ((i : ℕ) → times i all ≤ 1) → Ready plan s0 all (settle t)
settle-ready plan s0 all t h f one = at (any_running t.progress t.group) refl
  where
    at : (c : Bool) → any_running t.progress t.group ≡ c → Ready plan s0 all (cond c t (next t))
    at true e = record { inv = h; settled = inl e; full = f }
    at false e = record {
      inv = Inv-next plan s0 all t h one e;
      settled = next_settled t.progress t.later f (later_runs plan s0 all t h one);
      full = AreFull-tail t.later f;
    }

abbrev grabbed : State → ℕ → ℕ → Store → Plan → State
grabbed t i l s p = record t {
  store = s;
  owner = update t.owner l (i + 1);
  progress = update t.progress i (Running p);
  steps = t.steps ++ i ∷ [];
}

granted : (w i : ℕ) → ((w == 0) || (w == i + 1)) ≡ true → (w ≡ 0) ⊎ (w ≡ i + 1)
granted w i h = grind (arith, nat_tests)

pub touch-ready : (plan : ℕ → Plan) (s0 : Store) (all : List ℕ) (t : State) (i : ℕ) (k : Key) (s : Store) (x p : Plan)
    → Ready plan s0 all t → ((i : ℕ) → times i all ≤ 1) → mem i t.group ≡ true → t.progress i ≡ Running x
    → (((t.owner (lock_number k) ≡ 0) ⊎ (t.owner (lock_number k) ≡ i + 1))
    → Safe plan (looks (serial plan t.base t.done)) (looks s) (update t.owner (lock_number k) (i + 1))
    (update t.progress i (Running p)))
    → Ready plan s0 all (settle (touch plan t i k s p))
touch-ready plan s0 all t i k s x p h one m r safe = at ((t.owner (lock_number k) == 0) || (t.owner (lock_number k) == i + 1)) refl
  where
    at : (c : Bool) → ((t.owner (lock_number k) == 0) || (t.owner (lock_number k) == i + 1)) ≡ c
        → Ready plan s0 all (settle (cond c (grabbed t i (lock_number k) s p) (again plan t i)))
    at true e = settle-ready plan s0 all (grabbed t i (lock_number k) s p)
        (Inv-grab plan s0 all t i (lock_number k) s x p h.inv m r (safe (granted _ _ e))) h.full one
    at false e = settle-ready plan s0 all (again plan t i) (Inv-again plan s0 all t i h.inv one) h.full one

update-own : (w : ℕ → ℕ) (l x : ℕ) → update w l x l ≡ x
update-own w l x = grind (arith, nat_tests)

pub act-ready : (plan : ℕ → Plan) (s0 : Store) (all : List ℕ) (t : State) (i : ℕ) (x : Progress) → Ready plan s0 all t
    → ((i : ℕ) → times i all ≤ 1) → mem i t.group ≡ true → t.progress i ≡ x → Ready plan s0 all (act plan t i x)
act-ready plan s0 all t i (Running (Reads k f)) h one m r =
    touch-ready plan s0 all t i k t.store (Reads k f) (f (value_at t.store k)) h one m r
    (λ g. Safe-read plan _ (looks t.store) (update t.owner (lock_number k) (i + 1)) t.progress i k f
    (Safe-take plan _ (looks t.store) t.owner t.progress i (lock_number k) h.inv.safe g)
    (update-own t.owner (lock_number k) (i + 1)) r)
act-ready plan s0 all t i (Running (Writes k v p)) h one m r =
    touch-ready plan s0 all t i k (written t.store k v) (Writes k v p) p h one m r
    (λ g. subst (λ (s : Lookup). Safe plan (looks (serial plan t.base t.done)) s
    (update t.owner (lock_number k) (i + 1)) (update t.progress i (Running p))) (sym (looks-written t.store k v))
    (Safe-write plan _ (looks t.store) (update t.owner (lock_number k) (i + 1)) t.progress i k v p
    (Safe-take plan _ (looks t.store) t.owner t.progress i (lock_number k) h.inv.safe g)
    (update-own t.owner (lock_number k) (i + 1)) r))
act-ready plan s0 all t i (Running (Ends e)) h one m r =
    settle-ready plan s0 all (leave t i e) (Inv-leave plan s0 all t i e h.inv m r) h.full one
act-ready plan s0 all t i (Ended e) h one m r = h

pub turn-ready : (plan : ℕ → Plan) (s0 : Store) (all : List ℕ) (t : State) (i : ℕ) → Ready plan s0 all t
    → ((i : ℕ) → times i all ≤ 1) → Ready plan s0 all (turn plan t i)
turn-ready plan s0 all t i h one = at (mem i t.group) refl
  where
    at : (c : Bool) → mem i t.group ≡ c → Ready plan s0 all (cond c (act plan t i (t.progress i)) t)
    at true m = act-ready plan s0 all t i (t.progress i) h one m refl
    at false m = h

pub turns-ready : (plan : ℕ → Plan) (s0 : Store) (all : List ℕ) (t : State) (is : List ℕ) → Ready plan s0 all t
    → ((i : ℕ) → times i all ≤ 1) → Ready plan s0 all (turns plan t is)
turns-ready plan s0 all t [] h one = h
turns-ready plan s0 all t (i ∷ is) h one = turns-ready plan s0 all (turn plan t i) is (turn-ready plan s0 all t i h one) one

pub start-ready : (plan : ℕ → Plan) (groups : List (List ℕ)) (s : Store) → AreFull groups → Ready plan s (concat groups) (start plan groups s)
start-ready plan groups s f = record {
  inv = record {
    base_is = refl;
    safe = Safe-start plan (looks s);
    held = λ l i o. absurd (omega arith);
    ends = λ i. refl;
    once = λ i. refl;
    parts = λ i. parts_at i groups;
    inside = λ i. omega arith;
  };
  settled = next_settled (λ i. Running (plan i)) groups f (λ j z. refl);
  full = AreFull-tail groups f;
}
  where
    parts_at : (i : ℕ) (gs : List (List ℕ)) → 0 + times i (head_of gs) + times i (concat (tail_of gs)) ≡ times i (concat gs)
    parts_at i [] = refl
    parts_at i (g ∷ gs) = let a = times-append i g (concat gs) in omega arith
