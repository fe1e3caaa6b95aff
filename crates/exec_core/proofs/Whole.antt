-- What the machine's vectors come to is the run of the job.
use Rattle.std.proofs.Common.{◌≡◌, ℕ, zero, suc, ◌+◌, ◌<◌, ◌≤◌, Bool, true, false, cond, ◌==◌, List, [], ◌∷◌, length}
use Rattle.std.proofs.Common.{map, unwrap_or, Option, refl, sym, ap, ◌∙◌, ◌*◌, arith}
use Rattle.std.specs.Prelude.{nat_lt}
use Rattle.std.proofs.lemmas.Bool.{or_right}
use Rattle.std.proofs.lemmas.Bool.Decides.{nat_tests}
use Rattle.std.specs.declared.vec.Vec.{Vec}
use Rattle.std.specs.declared.alloc.Global.{Global}
use Rattle.aeg_base.specs.Store.{Store}
use Rattle.aeg_base.specs.Locks.{no_locks}
use Rattle.svc_api.specs.Plan.{Plan}
use Rattle.exec_model.specs.declared.job.Seg.{Seg}
use Rattle.std.specs.List.{All}
use Rattle.exec_model.specs.Machine.{State, Progress, Running, Ended, is_running, concat, start, turns, complete, run, end_of}
use Rattle.svc_api.specs.Orders.{mem}
use Rattle.exec_model.specs.Groups.{times, AreFull, IsOrder, mix}
use Rattle.exec_model.specs.Jobs.{Beginnings, plan_at, locks_at, said_nothing, below, Run, run_job}
use Rattle.exec_model.proofs.Basics.{mem-first, times-append, times-mem}
use Rattle.exec_model.proofs.Ready.{start-ready}
use Rattle.exec_model.proofs.Beyond.{cut, complete_cut, ends_cut}
use Rattle.key_mixer.specs.Lists.{set_at, lists_of}
use Rattle.key_mixer.proofs.Fits.{length-lists}
use Rattle.exec_core.specs.declared.machine.Slot.{Slot}
use Rattle.exec_core.specs.declared.machine.Machine.{Machine}
use Rattle.exec_core.specs.States.{owner_of, progress_of, begun, AreMembers, AreBegun}
use Rattle.exec_core.specs.Jobs.{run_in_groups}
use Rattle.exec_core.specs.Underway.{left_by}
use Rattle.exec_core.proofs.Orders.{order_once, order_groups}

past_end : (sets : List (List Bool)) (j : ℕ) → length sets ≤ j → set_at sets j ≡ no_locks
past_end [] j le = refl
past_end (x ∷ xs) zero le = absurd (omega arith)
past_end (x ∷ xs) (suc j) le = past_end xs j (omega arith)

no_segment : (begins : Beginnings) (segs : List Seg) (j : ℕ) → length segs ≤ j → locks_at begins segs j ≡ no_locks
no_segment begins [] j le = refl
no_segment begins (x ∷ xs) zero le = absurd (omega arith)
no_segment begins (x ∷ xs) (suc j) le = no_segment begins xs j (omega arith)

-- sets that are the segments' are so at every number
pub same_sets : (begins : Beginnings) (segs : List Seg) (sets : List (List Bool)) → length sets ≡ length segs
    → ((j : ℕ) → j < length segs → set_at sets j ≡ locks_at begins segs j) → set_at sets ≡ locks_at begins segs
same_sets begins segs sets long h = λ k j. at j (nat_lt j (length segs)) refl k
  where
    at : (j : ℕ) (b : Bool) → nat_lt j (length segs) ≡ b → set_at sets j ≡ locks_at begins segs j
    at j true e = h j (let lt : j < length segs = grind (arith, nat_tests) in lt)
    at j false e = let le : length segs ≤ j = grind (arith, nat_tests) in past_end sets j (omega arith) ∙ sym (no_segment begins segs j le)

-- a machine that has begun all segments, and nothing else
pub record IsFresh {P : Type 0} (plan : P → Option ℕ → Plan) (begins : Beginnings) (segs : List Seg) (m : Machine P) : Type 0 where
  pub slots : length m.slots.items ≡ length segs
  pub programs : (j : ℕ) → j < length segs → progress_of plan m.slots.items j ≡ Running (plan_at begins segs j)
  pub free : (l : ℕ) → owner_of m.owner.items l ≡ 0
  pub steps : m.steps.items ≡ []
  pub redo : m.redo ≡ 0

pub fresh : {P : Type 0} (plan : P → Option ℕ → Plan) (begins : Beginnings) (segs : List Seg) (slots : List (Slot P))
    (m : Machine P) → AreBegun plan begins segs slots
    → m.slots.items ≡ slots → ((l : ℕ) → owner_of m.owner.items l ≡ 0) → m.steps.items ≡ [] → m.redo ≡ 0 → IsFresh plan begins segs m
fresh {P = P} plan begins segs slots m b same free steps redo = record {
  slots = ap length same ∙ b.each;
  programs = λ j lt. ap (λ (xs : List (Slot P)). progress_of plan xs j) same ∙ b.programs j lt;
  free = free;
  steps = steps;
  redo = redo;
}

past_slots : {P : Type 0} (plan : P → Option ℕ → Plan) (slots : List (Slot P)) (j : ℕ) → length slots ≤ j → progress_of plan slots j ≡ Ended said_nothing
past_slots plan [] j le = refl
past_slots plan (x ∷ xs) zero le = absurd (omega arith)
past_slots plan (x ∷ xs) (suc j) le = past_slots plan xs j (omega arith)

pub begun_is : {P : Type 0} (plan : P → Option ℕ → Plan) (begins : Beginnings) (segs : List Seg) (m : Machine P)
    (s : Store) (groups : List (List ℕ)) → IsFresh plan begins segs m
    → begun plan m s [] groups (start (plan_at begins segs) groups s) ≡ cut (length segs) (start (plan_at begins segs) groups s)
begun_is plan begins segs m s groups f = λ k. record (start (plan_at begins segs) groups s) {
  owner = λ l. f.free l k;
  progress = λ j. at j (nat_lt j (length segs)) refl k;
  redo = f.redo k;
  steps = f.steps k;
}
  where
    at : (j : ℕ) (b : Bool) → nat_lt j (length segs) ≡ b → progress_of plan m.slots.items j
        ≡ cond (nat_lt j (length segs)) (Running (plan_at begins segs j)) (Ended said_nothing)
    at j true e = f.programs j (let lt : j < length segs = grind (arith, nat_tests) in lt)
        ∙ sym (ap (λ b. cond b (Running (plan_at begins segs j)) (Ended said_nothing)) e)
    at j false e =
        let le : length segs ≤ j = grind (arith, nat_tests) in
        past_slots plan m.slots.items j (let s = f.slots in omega arith) ∙ sym (ap (λ b. cond b (Running (plan_at begins segs j)) (Ended said_nothing)) e)

-- what a run came to
pub record Comes (run : Run) (n : ℕ) (s : Store) (order steps : List ℕ) (redo : ℕ) (q : ℕ → Progress) : Type 0 where
  pub steps_are : steps ≡ run.steps
  pub order_is : order ≡ run.order
  pub redo_is : redo ≡ run.redo
  pub store_is : s ≡ run.store
  pub ends_are : map (λ i. unwrap_or (end_of (q i)) said_nothing) (below n) ≡ run.ends

-- a state that is the run's, but for numbers that no segment has
pub comes_cut : (begins : Beginnings) (segs : List Seg) (s : Store) (groups : List (List ℕ)) (schedule : List ℕ) (t : State)
    → t ≡ cut (length segs) (run (plan_at begins segs) groups s schedule)
    → Comes (run_in_groups begins segs groups s schedule) (length segs) t.store t.past t.steps t.redo t.progress
comes_cut begins segs s groups schedule t end =
    let n = length segs in
    record {
      steps_are = ap (λ (t : State). t.steps) end;
      order_is = ap (λ (t : State). t.past) end;
      redo_is = ap (λ (t : State). t.redo) end;
      store_is = ap (λ (t : State). t.store) end;
      ends_are = ap (λ (t : State). map (λ i. unwrap_or (end_of (t.progress i)) said_nothing) (below n)) end
          ∙ ends_cut n n (run (plan_at begins segs) groups s schedule).progress (omega arith);
    }

pub comes : {P : Type 0} (plan : P → Option ℕ → Plan) (begins : Beginnings) (segs : List Seg) (m m' : Machine P)
    (s s' : Store) (order : List ℕ) (groups : List (List ℕ)) (schedule : List ℕ)
    → IsFresh plan begins segs m → AreFull groups → IsOrder (length segs) (concat groups)
    → ((t : State) → begun plan m' s' order [] t ≡ complete (plan_at begins segs) (turns (plan_at begins segs) (begun plan m s [] groups t) schedule))
    → Comes (run_in_groups begins segs groups s schedule) (length segs) s' order m'.steps.items m'.redo (progress_of plan m'.slots.items)
comes plan begins segs m m' s s' order groups schedule f full once goes =
    let plans = plan_at begins segs in
    let n = length segs in
    let t0 = start plans groups s in
    let end : begun plan m' s' order [] t0 ≡ cut n (run plans groups s schedule) =
    goes t0
    ∙ ap (λ (t : State). complete plans (turns plans t schedule)) (begun_is plan begins segs m s groups f)
    ∙ complete_cut plans s (concat groups) n (order_once n (concat groups) once) once t0 schedule (start-ready plans groups s full) in
    comes_cut begins segs s groups schedule (begun plan m' s' order [] t0) end

-- what the machine's vectors tell is the run
pub left_is : {P : Type 0} (plan : P → Option ℕ → Plan) (m : Machine P) (order : List ℕ) (s : Store) (r : Run) (n : ℕ)
    → length m.slots.items ≡ n → Comes r n s order m.steps.items m.redo (progress_of plan m.slots.items) → left_by plan m order s ≡ r
left_is plan m order s r n long z = λ k. record {
  steps = z.steps_are k;
  order = z.order_is k;
  redo = z.redo_is k;
  store = z.store_is k;
  ends = (ap (λ n. map (λ i. unwrap_or (end_of (progress_of plan m.slots.items i)) said_nothing) (below n)) long ∙ z.ends_are) k;
}

-- THE GROUPS

all_small : (n : ℕ) (xs : List ℕ) → ((j : ℕ) → mem j xs ≡ true → j < n) → All (λ j. j < n) xs
all_small n [] h k d lt = absurd (omega arith)
all_small n (x ∷ xs) h zero d lt = h x (mem-first x xs)
all_small n (x ∷ xs) h (suc k) d lt = all_small n xs (λ j m. h j (or_right (x == j) (mem j xs) m)) k d (omega arith)

pub are_members : (n : ℕ) (gs : List (List ℕ)) → n ≤ 255 → ((j : ℕ) → 0 < times j (concat gs) → j < n) → AreMembers n gs
are_members n [] few h = tt
are_members n (g ∷ gs) few h = (
  all_small n g (λ j m. in_first j m),
  all_small 255 g (λ j m. let lt = in_first j m in omega arith),
  are_members n gs few (λ j m. h j (let a = times-append j g (concat gs) in omega arith)),
)
  where
    in_first : (j : ℕ) → mem j g ≡ true → j < n
    in_first j m = h j (let a = times-append j g (concat gs) in let b = times-mem j g m in omega arith)

pub below_n : (j n : ℕ) → 0 < cond (nat_lt j n) 1 0 → j < n
below_n j n h = grind (arith, nat_tests)

-- what running these groups asks of a machine
pub record AreReady {P : Type 0} (plan : P → Option ℕ → Plan) (m : Machine P) (groups : List (Vec ℕ Global)) : Type 0 where
  pub members : AreMembers (length m.slots.items) (lists_of groups)
  pub once : (j : ℕ) → times j (concat (lists_of groups)) ≤ 1
  pub redo : m.redo + 2 * length groups < 255
  pub runs : (j : ℕ) → mem j (concat (lists_of groups)) ≡ true → is_running (progress_of plan m.slots.items j) ≡ true

pub are_ready : {P : Type 0} (plan : P → Option ℕ → Plan) (begins : Beginnings) (segs : List Seg) (m : Machine P) (groups : List (Vec ℕ Global))
    → length segs ≤ 32 → IsFresh plan begins segs m → AreFull (lists_of groups) → IsOrder (length segs) (concat (lists_of groups)) → AreReady plan m groups
are_ready plan begins segs m groups few f full order =
    let n = length segs in
    let gs = lists_of groups in
    record {
      members = are_members (length m.slots.items) gs (let e = f.slots in omega arith)
          (λ j h. let lt = below_n j n (let e = order j in omega arith) in let e = f.slots in omega arith);
      once = order_once n (concat gs) order;
      redo = (let a = length-lists groups in let b = order_groups n gs full order in let d = f.redo in omega arith);
      runs = λ j h. ap is_running (f.programs j (below_n j n (let a = order j in let b = times-mem j (concat gs) h in omega arith)));
    }

-- the groups of the sets that the segments declare
pub mixed_groups : (begins : Beginnings) (segs : List Seg) (declared sets : List (List Bool)) (mixed groups : List (Vec ℕ Global))
    → length declared ≡ length segs → ((j : ℕ) → j < length segs → set_at declared j ≡ locks_at begins segs j) → sets ≡ declared
    → lists_of mixed ≡ mix (set_at sets) (length sets) → groups ≡ mixed → lists_of groups ≡ mix (locks_at begins segs) (length segs)
mixed_groups begins segs declared sets mixed groups long same es h eg =
    ap lists_of eg ∙ h ∙ ap (λ (xs : List (List Bool)). mix (set_at xs) (length xs)) es
    ∙ ap (λ (f : ℕ → List Bool). mix f (length declared)) (same_sets begins segs declared long same) ∙ ap (mix (locks_at begins segs)) long

pub mixed_run : (begins : Beginnings) (segs : List Seg) (s : Store) (schedule : List ℕ)
    → run_in_groups begins segs (mix (locks_at begins segs) (length segs)) s schedule ≡ run_job begins segs s schedule
unfolding run_job
mixed_run begins segs s schedule = refl
