-- One more member of a group.
use Rattle.std.proofs.Common.{◌≡◌, ◌≢◌, ℕ, suc, zero, ◌+◌, ◌<◌, ◌≤◌, ◌==◌, Bool, true, false, ◌||◌, List, [], ◌∷◌}
use Rattle.std.proofs.Common.{length, get_or, set, drop, Option, Some, None, sym, ap, subst, ◌∙◌, inl, inr, ◌⊎◌, cond}
use Rattle.std.proofs.Common.{arith}
use Rattle.std.proofs.lemmas.Bool.Decides.{nat_tests, eqb_tells}
use Rattle.std.proofs.lemmas.List.{drop_more}
use Rattle.svc_api.specs.declared.action.Ending.{Ending}
use Rattle.svc_api.specs.Plan.{Plan, store_after, ending_of}
use Rattle.aeg_base.specs.Store.{Store}
use Rattle.exec_model.specs.Serial.{serial, serial_end}
use Rattle.exec_model.specs.Machine.{Progress, Ended, is_running, any_running, or_ended}
use Rattle.svc_api.specs.Orders.{mem}
use Rattle.std.specs.List.{All}
use Rattle.std.proofs.lemmas.List.Elements.{All-tail}
use Rattle.exec_model.specs.Groups.{times}
use Rattle.exec_model.proofs.Basics.{serial_end-none}
use Rattle.exec_model.specs.declared.job.Seg.{Seg}
use Rattle.exec_model.specs.Jobs.{Beginnings}
use Rattle.exec_core.specs.declared.machine.Machine.{Machine}
use Rattle.exec_core.specs.declared.machine.Slot.{Slot}
use Rattle.exec_core.specs.States.{progress_of}
use Rattle.exec_core.specs.Rounds.{CanRun, LeavesOthers, RunsOn}
use Rattle.exec_core.proofs.OneStep.{progress_of-set}

pub any_running-drop : (q : ℕ → Progress) (xs : List ℕ) (k : ℕ) → k < length xs
    → any_running q (drop k xs) ≡ (is_running (q (get_or xs k 0)) || any_running q (drop (k + 1) xs))
any_running-drop q xs k h = ap (any_running q) (drop_more xs k 0 h)

times-drop : (i k : ℕ) (xs : List ℕ) → times i (drop k xs) ≤ times i xs
times-drop i zero xs = omega arith
times-drop i (suc k) [] = omega arith
times-drop i (suc k) (x ∷ xs) = let h = times-drop i k xs in omega arith

pub serial-drop : (plans : ℕ → Plan) (s s' : Store) (xs : List ℕ) (k : ℕ) → k < length xs
    → s' ≡ store_after (plans (get_or xs k 0)) s → serial plans s' (drop (k + 1) xs) ≡ serial plans s (drop k xs)
serial-drop plans s s' xs k h e = ap (λ s. serial plans s (drop (k + 1) xs)) e ∙ sym (ap (serial plans s) (drop_more xs k 0 h))

pub rerun-more : {P : Type 0} (plan : P → Option ℕ → Plan) (plans : ℕ → Plan) (slots : List (Slot P)) (xs : List ℕ)
    (k : ℕ) (s s' : Store) (e : Ending) (j : ℕ) → k < length xs → ((i : ℕ) → times i xs ≤ 1) → get_or xs k 0 < length slots
    → s' ≡ store_after (plans (get_or xs k 0)) s → e ≡ ending_of (plans (get_or xs k 0)) s
    → or_ended (serial_end plans s' (drop (k + 1) xs) j) (progress_of plan (set slots (get_or xs k 0) (Slot.Ended e)) j)
    ≡ or_ended (serial_end plans s (drop k xs) j) (progress_of plan slots j)
rerun-more plan plans slots xs k s s' e j h once l es ee =
    ap (λ q. or_ended (serial_end plans s' r j) (q j)) (progress_of-set plan slots x (Slot.Ended e) l)
    ∙ by (x == j) (eqb_tells x j)
    ∙ sym (ap (λ ys. or_ended (serial_end plans s ys j) (progress_of plan slots j)) (drop_more xs k 0 h))
  where
    x : ℕ
    x = get_or xs k 0

    r : List ℕ
    r = drop (k + 1) xs

    no_more : times x r ≡ 0
    no_more =
        let a = times-drop x k xs in let b = once x in
        let c : times x (drop k xs) ≡ cond (x == x) 1 0 + times x r = ap (times x) (drop_more xs k 0 h) in
        let d : ◌≡◌ {A = ℕ} (cond (x == x) 1 0) 1 = grind (arith, nat_tests) in omega arith

    by : (c : Bool) → ((c ≡ true) × (x ≡ j)) ⊎ ((c ≡ false) × (x ≢ j))
        → or_ended (serial_end plans s' r j) (cond c (Ended e) (progress_of plan slots j))
        ≡ or_ended (cond c (Some (ending_of (plans x) s)) (serial_end plans (store_after (plans x) s) r j))
        (progress_of plan slots j)
    by true (inl z) =
        let n : serial_end plans s' r j ≡ None = serial_end-none plans s' r j (ap (λ n. times n r) (sym z.1) ∙ no_more) in
        ap (λ o. or_ended o (Ended e)) n ∙ ap Ended ee
    by true (inr z) = cc
    by false z = ap (λ s. or_ended (serial_end plans s r j) (progress_of plan slots j)) es

-- a group can take turns as long as the machine keeps its slots
pub can_still : {P : Type 0} {begins : Beginnings} {segs : List Seg} {group : List ℕ} {m : Machine P} (m' : Machine P) → CanRun begins segs group m
    → length m'.slots.items ≡ length m.slots.items → m'.redo < 255 → CanRun begins segs group m'
can_still {group = group} m' h slots redo = record {
  begin_well = h.begin_well;
  here = h.here;
  members = subst (λ n. All (λ j. j < n) group) (sym slots) h.members;
  once = h.once;
  redo = redo;
}

-- what a loop over a group's turns keeps
pub record Keeps {P : Type 0} (plan : P → Option ℕ → Plan) (group : List ℕ) (m m' : Machine P) (over : Bool) : Type 0 where
  pub slots : length m'.slots.items ≡ length m.slots.items
  pub locks : length m'.owner.items ≡ 256
  pub outside : LeavesOthers plan group m m'
  pub redo_most : m'.redo ≤ m.redo + 1
  pub runs : over ≡ false → any_running (progress_of plan m'.slots.items) group ≡ true
  pub redo : over ≡ false → m'.redo ≡ m.redo

-- after one more turn
pub keeps_on : {P : Type 0} {plan : P → Option ℕ → Plan} {group : List ℕ} {m m' : Machine P} {over : Bool}
    (m'' : Machine P) (over' : Bool) → Keeps plan group m m' over → over ≡ false
    → length m''.slots.items ≡ length m'.slots.items → length m''.owner.items ≡ 256 → LeavesOthers plan group m' m''
    → m''.redo ≤ m'.redo + 1 → RunsOn plan group m' m'' over' → (over' ≡ false → m''.redo ≡ m'.redo)
    → Keeps plan group m m'' over'
keeps_on m'' over' kept still slots locks outside redo_most runs redo = record {
  slots = slots ∙ kept.slots;
  locks = locks;
  outside = λ j n. outside j n ∙ kept.outside j n;
  redo_most = (let r = kept.redo still in omega arith);
  runs = λ o. runs o (kept.runs still);
  redo = λ o. redo o ∙ kept.redo still;
}

pub all_mem : (n : ℕ) (xs : List ℕ) (i : ℕ) → All (λ j. j < n) xs → mem i xs ≡ true → i < n
all_mem n [] i a m = cc
all_mem n (x ∷ xs) i a m = at (all_mem n xs i (All-tail (λ j. j < n) x xs a)) (x == i) (eqb_tells x i) m
  where
    first : x < n
    first = a 0 0 (omega arith)

    at : (mem i xs ≡ true → i < n) → (c : Bool) → ((c ≡ true) × (x ≡ i)) ⊎ ((c ≡ false) × (x ≢ i)) → (c || mem i xs) ≡ true → i < n
    at rec true (inl z) m = let f = first in let e = z.1 in omega arith
    at rec true (inr z) m = cc
    at rec false z m = rec m
