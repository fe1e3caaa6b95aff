-- How often a group is run again.
use Rattle.std.proofs.Common.{◌≡◌, ℕ, ◌+◌, ◌≤◌, ◌==◌, Bool, true, false, ◌||◌, List, [], ◌∷◌, ◌++◌, length, refl, sym, ap, ◌∙◌, cond, arith}
use Rattle.std.proofs.lemmas.Bool.{or_right}
use Rattle.aeg_base.specs.Store.{Store, value_at, written}
use Rattle.aeg_base.specs.Locks.{lock_number}
use Rattle.svc_api.specs.Plan.{Plan, Reads, Writes, Ends}
use Rattle.exec_model.specs.Serial.{serial_end}
use Rattle.exec_model.specs.Machine.{next, State, update, any_running, is_running, or_ended, concat, Progress, Running}
use Rattle.exec_model.specs.Machine.{Ended, settle, again, leave, act, turn, turns, start, run}
use Rattle.svc_api.specs.Orders.{mem}
use Rattle.exec_model.proofs.Basics.{mem-first, serial_end-some, times-mem}
use Rattle.exec_model.proofs.Inv.{head_of, tail_of}
use Rattle.exec_model.proofs.Finish.{finish-keeps, turns-keeps}

-- a group that is not over counts once
abbrev one : List ℕ → ℕ
one [] = 0
one (x ∷ xs) = 1

abbrev pub Redo : ℕ → State → Type 0
Redo n t = t.redo + length t.later + one t.group ≤ n

one_most : (g : List ℕ) → one g ≤ 1
one_most [] = omega arith
one_most (x ∷ xs) = omega arith

next_count : (gs : List (List ℕ)) → length (tail_of gs) + one (head_of gs) ≤ length gs
next_count [] = omega arith
next_count (g ∷ gs) = let a = one_most g in omega arith

none_once : (q : ℕ → Progress) (g : List ℕ) (r : ℕ) → any_running q g ≡ true → one g ≡ 1
none_once q [] r h = cc
none_once q (x ∷ xs) r h = refl

settle-redo : (n : ℕ) (t : State) → Redo n t → Redo n (settle t)
settle-redo n t h = at (any_running t.progress t.group)
  where
    at : (c : Bool) → Redo n (cond c t (next t))
    at true = h
    at false = let a = next_count t.later in omega arith

-- a rerun uses up its group
again-redo : (n : ℕ) (plan : ℕ → Plan) (t : State) (i : ℕ) → mem i t.group ≡ true → Redo n t → Redo n (settle (again plan t i))
again-redo n plan t i m h = at (any_running (again plan t i).progress t.group) refl
  where
    each : (j : ℕ) → mem j t.group ≡ true → is_running (or_ended (serial_end plan t.base t.group j) (t.progress j)) ≡ false
    each j k = let z = serial_end-some plan t.base t.group j (times-mem j t.group k) in ap (λ o. is_running (or_ended o (t.progress j))) z.1

    some : (g : List ℕ) → mem i g ≡ true → one g ≡ 1
    some [] k = cc
    some (x ∷ xs) k = refl

    none : (xs : List ℕ) → ((j : ℕ) → mem j xs ≡ true → mem j t.group ≡ true) → any_running (again plan t i).progress xs ≡ false
    none [] k = refl
    none (x ∷ xs) k = by (is_running ((again plan t i).progress x)) (each x (k x (mem-first x xs))) (none xs (λ j l. k j (or_right (x == j) (mem j xs) l)))
      where
        by : (c : Bool) → c ≡ false → any_running (again plan t i).progress xs ≡ false → (c || any_running (again plan t i).progress xs) ≡ false
        by true e r = cc
        by false e r = r

    at : (c : Bool) → any_running (again plan t i).progress t.group ≡ c → Redo n (cond c (again plan t i) (next (again plan t i)))
    at true e = let z : true ≡ false = sym e ∙ none t.group (λ j k. k) in cc
    at false e = let a = next_count t.later in let b = some t.group m in omega arith

act-redo : (n : ℕ) (plan : ℕ → Plan) (t : State) (i : ℕ) (x : Progress) → mem i t.group ≡ true → Redo n t → Redo n (act plan t i x)
act-redo n plan t i (Running (Reads k f)) m h = at ((t.owner (lock_number k) == 0) || (t.owner (lock_number k) == i + 1))
  where
    u : State
    u = record t {
      owner = update t.owner (lock_number k) (i + 1);
      progress = update t.progress i (Running (f (value_at t.store k)));
      steps = t.steps ++ i ∷ [];
    }

    at : (c : Bool) → Redo n (settle (cond c u (again plan t i)))
    at true = settle-redo n u h
    at false = again-redo n plan t i m h
act-redo n plan t i (Running (Writes k v p)) m h = at ((t.owner (lock_number k) == 0) || (t.owner (lock_number k) == i + 1))
  where
    u : State
    u = record t {
      store = written t.store k v;
      owner = update t.owner (lock_number k) (i + 1);
      progress = update t.progress i (Running p);
      steps = t.steps ++ i ∷ [];
    }

    at : (c : Bool) → Redo n (settle (cond c u (again plan t i)))
    at true = settle-redo n u h
    at false = again-redo n plan t i m h
act-redo n plan t i (Running (Ends e)) m h = settle-redo n (leave t i e) h
act-redo n plan t i (Ended e) m h = h

turn-redo : (n : ℕ) (plan : ℕ → Plan) (t : State) (i : ℕ) → Redo n t → Redo n (turn plan t i)
turn-redo n plan t i h = at (mem i t.group) refl
  where
    at : (c : Bool) → mem i t.group ≡ c → Redo n (cond c (act plan t i (t.progress i)) t)
    at true m = act-redo n plan t i (t.progress i) m h
    at false m = h

-- at most one rerun a group
pub run-redo : (plan : ℕ → Plan) (groups : List (List ℕ)) (s : Store) (schedule : List ℕ) → (run plan groups s schedule).redo ≤ length groups
run-redo plan groups s schedule =
    let step = λ (t : State) (i : ℕ) (h : Redo (length groups) t). turn-redo (length groups) plan t i h in
    let first : Redo (length groups) (start plan groups s) = (let a = next_count groups in omega arith) in
    let u = turns plan (start plan groups s) schedule in
    let last : Redo (length groups) (run plan groups s schedule) = finish-keeps plan (Redo (length groups)) step
    (u.group ++ concat u.later) u (turns-keeps plan (Redo (length groups)) step schedule (start plan groups s) first) in
    omega arith
