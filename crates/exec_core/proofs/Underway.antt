-- A machine between two turns is in the state that its steps lead to.
use Rattle.std.proofs.Common.{◌≡◌, ℕ, zero, suc, ◌+◌, ◌<◌, ◌≤◌, true, false, List, [], ◌∷◌, ◌++◌, length, get_or, drop}
use Rattle.std.proofs.Common.{Option, Result, Ok, Err, refl, sym, ap, subst, ◌∙◌, arith}
use Rattle.std.specs.Prelude.{IfOk}
use Rattle.std.specs.List.{All}
use Rattle.std.proofs.lemmas.Bool.{and_parts, both_ways}
use Rattle.std.specs.declared.vec.Vec.{Vec}
use Rattle.std.specs.declared.alloc.Global.{Global}
use Rattle.aeg_base.specs.Store.{Store}
use Rattle.svc_api.specs.Plan.{Plan, Ends}
use Rattle.exec_model.specs.declared.job.Seg.{Seg}
use Rattle.exec_model.specs.Machine.{State, Running, concat, start, turn, turns, next, complete, run}
use Rattle.svc_api.specs.Orders.{mem}
use Rattle.exec_model.specs.Groups.{times, AreFull, IsOrder}
use Rattle.exec_model.specs.Jobs.{Beginnings, Run, plan_at, locks_at, groups_of, said_nothing, run_job}
use Rattle.exec_model.proofs.Mixer.{AreFull-mix, times-mix}
use Rattle.exec_model.proofs.Finish.{turn-replays}
use Rattle.exec_model.proofs.Ready.{start-ready}
use Rattle.exec_model.proofs.Beyond.{cut, complete_cut}
use Rattle.key_mixer.specs.Lists.{lists_of}
use Rattle.key_mixer.proofs.Fits.{length-lists}
use Rattle.exec_core.specs.declared.work.Work.{Work}
use Rattle.exec_core.specs.declared.ran.Ran.{Ran}
use Rattle.exec_core.specs.Jobs.{BeginsWell, IsRan}
use Rattle.exec_core.specs.Rounds.{CanRun}
use Rattle.exec_core.specs.States.{owner_of, progress_of, whole_of, AreMembers}
use Rattle.exec_core.specs.Underway.{begun_on, can_step, state_after, state_at, left_by, IsReached}
use Rattle.exec_core.proofs.Loops.{all_mem}
use Rattle.exec_core.proofs.Groups.{at_group, lists_all, run-over}
use Rattle.exec_core.proofs.Replays.{replayed}
use Rattle.exec_core.proofs.Orders.{order_once, order_groups}
use Rattle.exec_core.proofs.Whole.{IsFresh, Comes, begun_is, are_members, below_n, comes_cut, left_is, mixed_run}

-- where a group is at work, it has segments of the job, each once; and few groups are before it
pub record GroupAt (n : ℕ) (all : List (List ℕ)) (k : ℕ) (g : List ℕ) : Type 0 where
  pub members : All (λ j. j < n) g
  pub numbers : All (λ j. j < 255) g
  pub once : (j : ℕ) → times j g ≤ 1
  pub here : drop k all ≡ g ∷ drop (k + 1) all
  pub before : k < 32

pub group_at : (begins : Beginnings) (segs : List Seg) (groups : List (Vec ℕ Global)) (k : ℕ) (v : Vec ℕ Global)
    (g : List ℕ) → length segs ≤ 32 → lists_of groups ≡ groups_of begins segs → k < length groups → v ≡ get_or groups k v → g ≡ v.items
    → GroupAt (length segs) (lists_of groups) k g
group_at begins segs groups k v g few same lt is there =
    let n = length segs in
    let all = lists_of groups in
    let full : AreFull all = subst AreFull (sym same) (AreFull-mix (locks_at begins segs) n) in
    let order : IsOrder n (concat all) = λ i. ap (λ gs. times i (concat gs)) same ∙ times-mix (locks_at begins segs) n i in
    let members : AreMembers n all = are_members n all (omega arith) (λ j h. below_n j n (let e = order j in omega arith)) in
    let a = at_group n (λ j. Running (Ends said_nothing)) groups k v g lt is there members full (order_once n (concat all) order) (λ j h. refl) in
    record {
      members = a.members;
      numbers = a.numbers;
      once = a.once;
      here = a.here;
      before = (let a = length-lists groups in let b = order_groups n all full order in omega arith);
    }

-- what a turn of segment i asks, where its group is at work
pub record CanTurn {P : Type 0} (begins : Beginnings) (segs : List Seg) (w : Work P) (xs : List ℕ) (i : ℕ) : Type 0 where
  pub group : CanRun begins segs xs w.m
  pub member : mem i xs ≡ true
  pub slot : i < length w.m.slots.items
  pub small : i < 255
  pub at : drop w.at (lists_of w.groups.items) ≡ xs ∷ drop (w.at + 1) (lists_of w.groups.items)

pub can_turn : {P : Type 0} (plan : P → Option ℕ → Plan) (begins : Beginnings) (segs : List Seg) (s : Store)
    (w : Work P) (v : Vec ℕ Global) (xs : List ℕ) (i : ℕ)
    → All (BeginsWell begins) segs → length segs ≤ 32 → IsReached plan begins segs s w → w.at < length w.groups.items
    → v ≡ get_or w.groups.items w.at v → xs ≡ v.items → mem i xs ≡ true
    → CanTurn begins segs w xs i
can_turn plan begins segs s w v xs i well few r lt is same m =
    let n = length segs in
    let a = group_at begins segs w.groups.items w.at v xs few r.groups lt is same in
    let members : All (λ j. j < length w.m.slots.items) xs = subst (λ k. All (λ j. j < k) xs) (sym r.slots) a.members in
    record {
      group = record {
        begin_well = well;
        here = a.members;
        members = members;
        once = a.once;
        redo = (let b = a.before in let c = r.redo in omega arith);
      };
      member = m;
      slot = all_mem (length w.m.slots.items) xs i members m;
      small = all_mem 255 xs i a.numbers m;
      at = a.here;
    }

-- the state, with the groups from the one at work on
abbrev pub state_with : {P : Type 0} → (P → Option ℕ → Plan) → Work P → List (List ℕ) → State
state_with plan w gs = record (state_at plan w) {
  group = elim gs [ [] ↦ [] | g ∷ rest ↦ g ];
  later = elim gs [ [] ↦ [] | g ∷ rest ↦ rest ];
}

pub state_here : {P : Type 0} (plan : P → Option ℕ → Plan) (w : Work P) (gs : List (List ℕ))
    → drop w.at (lists_of w.groups.items) ≡ gs → state_at plan w ≡ state_with plan w gs
state_here plan w gs e = ap (state_with plan w) e

-- a segment that is not of the group at work makes no step
pub apart : {P : Type 0} (plan : P → Option ℕ → Plan) (w : Work P) (g : List ℕ) (rest : List (List ℕ)) (i : ℕ)
    → drop w.at (lists_of w.groups.items) ≡ g ∷ rest → mem i g ≡ false → can_step (state_at plan w) i ≡ true → ⊥
apart plan w g rest i e away can_go =
    both_ways (mem i g) away (sym (ap (λ (t : State). mem i t.group) (state_here plan w (g ∷ rest) e)) ∙ (and_parts _ _ can_go).0)

-- the state after the steps so far tells who can step
pub steps_on : {P : Type 0} (plan : P → Option ℕ → Plan) (begins begins' : Beginnings) (segs segs' : List Seg)
    (s s' : Store) (w : Work P) (steps : List ℕ) (i : ℕ)
    → begins ≡ begins' → segs ≡ segs' → s ≡ s' → steps ≡ w.m.steps.items → IsReached plan begins segs s w
    → can_step (state_after begins' segs' s' steps) i ≡ true → can_step (state_at plan w) i ≡ true
steps_on plan begins begins' segs segs' s s' w steps i b j t e r can_go =
    let same : state_after begins' segs' s' steps ≡ state_at plan w = (λ k. state_after (sym b k) (sym j k) (sym t k) (e k)) ∙ r.state in
    sym (ap (λ (u : State). can_step u i) same) ∙ can_go

-- a turn leads on
pub leads_on : (plans : ℕ → Plan) (t0 u v : State) (i : ℕ) → turns plans t0 u.steps ≡ u → v ≡ turn plans u i → turns plans t0 v.steps ≡ v
leads_on plans t0 u v i h e = subst (λ (x : State). turns plans t0 x.steps ≡ x) (sym e) (turn-replays plans t0 u i h)

-- the state around a group
abbrev pub around : List ℕ → List ℕ → List (List ℕ) → State → State
around order g rest t = record t { past = order; group = g; later = rest }

-- one turn of segment i, within the group
pub turned : {P : Type 0} (plan : P → Option ℕ → Plan) (begins : Beginnings) (segs : List Seg) (s : Store)
    (w w' : Work P) (i : ℕ) (g : List ℕ) (rest : List (List ℕ))
    → IsReached plan begins segs s w → drop w.at (lists_of w.groups.items) ≡ g ∷ rest
    → w'.groups ≡ w.groups → w'.at ≡ w.at → w'.order ≡ w.order
    → length w'.m.slots.items ≡ length w.m.slots.items → length w'.m.owner.items ≡ 256 → w'.m.redo ≡ w.m.redo
    → ((t : State) → t.group ≡ g → whole_of plan w'.m w'.cells.now w'.cells.base t
    ≡ turn (plan_at begins segs) (whole_of plan w.m w.cells.now w.cells.base t) i)
    → IsReached plan begins segs s w'
turned plan begins segs s w w' i g rest r d eg ea eo slots locks redo goes =
    let t0 = begun_on begins segs s in
    let old : state_at plan w ≡ state_with plan w (g ∷ rest) = state_here plan w (g ∷ rest) d in
    let there : drop w'.at (lists_of w'.groups.items) ≡ g ∷ rest = (λ n. drop (ea n) (lists_of (eg n).items)) ∙ d in
    let new : state_at plan w' ≡ state_with plan w' (g ∷ rest) = state_here plan w' (g ∷ rest) there in
    let order : state_with plan w' (g ∷ rest)
    ≡ record (state_with plan w' (g ∷ rest)) { past = w.order.items } = λ n. record (state_with plan w' (g ∷ rest))
    { past = (eo n).items } in
    record {
      groups = ap (λ (v : Vec (Vec ℕ Global) Global). lists_of v.items) eg ∙ r.groups;
      slots = slots ∙ r.slots;
      locks = locks;
      redo = (let a = r.redo in omega arith);
      state = leads_on (plan_at begins segs) t0 (state_at plan w) (state_at plan w') i r.state
          (new ∙ order ∙ goes (around w.order.items g rest t0) refl ∙ ap (λ u. turn (plan_at begins segs) u i) (sym old));
    }

-- one turn of segment i, with which the group is over
pub turned_over : {P : Type 0} (plan : P → Option ℕ → Plan) (begins : Beginnings) (segs : List Seg) (s : Store)
    (w v w' : Work P) (i : ℕ) (g : List ℕ) (rest : List (List ℕ))
    → IsReached plan begins segs s w → drop w.at (lists_of w.groups.items) ≡ g ∷ rest
    → v.groups ≡ w.groups → v.at ≡ w.at → v.order ≡ w.order
    → length v.m.slots.items ≡ length w.m.slots.items → length v.m.owner.items ≡ 256 → v.m.redo ≤ w.m.redo + 1
    → ((t : State) → t.group ≡ g → next (whole_of plan v.m v.cells.now v.cells.base t)
    ≡ turn (plan_at begins segs) (whole_of plan w.m w.cells.now w.cells.base t) i)
    → state_at plan w' ≡ next (state_at plan v) → w'.at ≡ v.at + 1 → w'.m.slots ≡ v.m.slots → w'.m.owner ≡ v.m.owner
    → w'.m.redo ≡ v.m.redo → w'.groups ≡ v.groups
    → IsReached plan begins segs s w'
turned_over {P = P} plan begins segs s w v w' i g rest r d eg ea eo slots locks redo goes es ea' e1 e2 e3 eg' =
    let t0 = begun_on begins segs s in
    let old : state_at plan w ≡ state_with plan w (g ∷ rest) = state_here plan w (g ∷ rest) d in
    let there : drop v.at (lists_of v.groups.items) ≡ g ∷ rest = (λ n. drop (ea n) (lists_of (eg n).items)) ∙ d in
    let mid : state_at plan v ≡ state_with plan v (g ∷ rest) = state_here plan v (g ∷ rest) there in
    let order : state_with plan v (g ∷ rest)
    ≡ record (state_with plan v (g ∷ rest)) { past = w.order.items } = λ n. record (state_with plan v (g ∷ rest))
    { past = (eo n).items } in
    record {
      groups = ap (λ (x : Vec (Vec ℕ Global) Global). lists_of x.items) (eg' ∙ eg) ∙ r.groups;
      slots = ap (λ (x : Vec _ Global). length x.items) e1 ∙ slots ∙ r.slots;
      locks = ap (λ (x : Vec ℕ Global). length x.items) e2 ∙ locks;
      redo = (let a = r.redo in omega arith);
      state = leads_on (plan_at begins segs) t0 (state_at plan w) (state_at plan w') i r.state
          (es ∙ ap next (mid ∙ order) ∙ goes (around w.order.items g rest t0) refl ∙ ap (λ u. turn (plan_at begins segs) u i) (sym old));
    }

-- the groups after one, and those after the first of the rest
pub after_next : (gs : List (List ℕ)) (k : ℕ) → drop (suc k) gs ≡ elim (drop k gs) [ [] ↦ [] | g ∷ rest ↦ rest ]
after_next [] zero = refl
after_next [] (suc k) = refl
after_next (g ∷ gs) zero = refl
after_next (g ∷ gs) (suc k) = after_next gs k

-- with the next group begun the state is the machine's next
pub next_state : {P : Type 0} (plan : P → Option ℕ → Plan) (w w' : Work P) → w'.groups ≡ w.groups → w'.at ≡ w.at + 1
    → w'.order.items ≡ w.order.items ++ w.m.done.items → w'.m.done.items ≡ []
    → w'.m.slots ≡ w.m.slots → w'.m.owner ≡ w.m.owner → w'.m.redo ≡ w.m.redo → w'.m.steps ≡ w.m.steps → w'.cells.now ≡ w.cells.now → w'.cells.base ≡ w.cells.now
    → state_at plan w' ≡ next (state_at plan w)
next_state {P = P} plan w w' eg ea eo ed e1 e2 e3 e4 now base =
    let one : w.at + 1 ≡ suc w.at = omega arith in
    let rest : drop w'.at (lists_of w'.groups.items) ≡ (state_at plan w).later = (λ n. drop ((ea ∙ one) n)
    (lists_of (eg n).items)) ∙ after_next (lists_of w.groups.items) w.at in
    state_here plan w' (state_at plan w).later rest
    ∙ (λ n. record (state_with plan w' (state_at plan w).later) {
      store = now n;
      owner = owner_of (e2 n).items;
      progress = progress_of plan (e1 n).items;
      base = base n;
      past = eo n;
      done = ed n;
      redo = e3 n;
      steps = (e4 n).items;
    })

-- a machine that has just begun is in its first state
pub first_state : {P : Type 0} (plan : P → Option ℕ → Plan) (begins : Beginnings) (segs : List Seg) (s : Store) (w : Work P)
    → IsFresh plan begins segs w.m → w.m.done.items ≡ [] → w.cells.now ≡ s → w.cells.base ≡ s → w.at ≡ 0
    → w.order.items ≡ [] → lists_of w.groups.items ≡ groups_of begins segs
    → turns (plan_at begins segs) (begun_on begins segs s) w.m.steps.items ≡ state_at plan w
first_state plan begins segs s w f done now base at order groups =
    let plans = plan_at begins segs in
    let b = begun_is plan begins segs w.m s (groups_of begins segs) f in
    let d : drop w.at (lists_of w.groups.items) ≡ groups_of begins segs = (λ n. drop (at n) (groups n)) in
    ap (turns plans (begun_on begins segs s)) f.steps
    ∙ sym b
    ∙ sym (state_here plan w (groups_of begins segs) d
    ∙ (λ n. record (state_with plan w (groups_of begins segs)) { store = now n; base = base n; past = order n; done = done n }))

-- where all groups are over, what is left is the run by the steps
pub over_run : {P : Type 0} (plan : P → Option ℕ → Plan) (begins : Beginnings) (segs : List Seg) (s : Store) (w : Work P)
    → IsReached plan begins segs s w → length w.groups.items ≤ w.at → left_by plan w.m w.order.items w.cells.now ≡ run_job begins segs s w.m.steps.items
over_run plan begins segs s w r far =
    let plans = plan_at begins segs in
    let n = length segs in
    let gs = groups_of begins segs in
    let full : AreFull gs = AreFull-mix (locks_at begins segs) n in
    let once : IsOrder n (concat gs) = times-mix (locks_at begins segs) n in
    let t = state_at plan w in
    let none : drop w.at (lists_of w.groups.items) ≡ [] = lists_all w.groups.items w.at far in
    let here : t ≡ state_with plan w [] = state_here plan w [] none in
    let still : t ≡ complete plans t = here ∙ run-over plans (state_with plan w []) [] refl refl ∙ ap (complete plans) (sym here) in
    let end : t ≡ cut n (run plans gs s w.m.steps.items) =
    still
    ∙ ap (complete plans) (sym r.state)
    ∙ complete_cut plans s (concat gs) n (order_once n (concat gs) once) once (start plans gs s) w.m.steps.items (start-ready plans gs s full) in
    left_is plan w.m w.order.items w.cells.now (run_job begins segs s w.m.steps.items) n r.slots
    (subst (λ (x : Run). Comes x n w.cells.now w.order.items w.m.steps.items w.m.redo
    (progress_of plan w.m.slots.items)) (mixed_run begins segs s w.m.steps.items)
    (comes_cut begins segs s gs w.m.steps.items t end))

-- a run of the same job is the task's
pub of_task : (begins begins' : Beginnings) (segs segs' : List Seg) (s s' t : Store) (ran : Ran) → begins ≡ begins' → segs ≡ segs' → s ≡ s'
    → IsRan s t (run_job begins segs s ran.steps) ran → IsRan s' t (run_job begins' segs' s' ran.steps) ran
of_task begins begins' segs segs' s s' t ran eb es e h =
    subst (λ (x : Store). IsRan x t (run_job begins' segs' x ran.steps) ran) e
    (subst (λ (xs : List Seg). IsRan s t (run_job begins' xs s ran.steps) ran) es
    (subst (λ (b : Beginnings). IsRan s t (run_job b segs s ran.steps) ran) eb h))

-- what ran this job by any schedule ran the task's, by its own steps
pub task_is_run : {E : Type 0} (begins begins' : Beginnings) (segs segs' : List Seg) (s s' t : Store)
    (schedule : List ℕ) (r : Result Ran E) → begins ≡ begins' → segs ≡ segs' → s ≡ s'
    → IfOk r (IsRan s t (run_job begins segs s schedule)) → IfOk r (λ ran. IsRan s' t (run_job begins' segs' s' ran.steps) ran)
task_is_run begins begins' segs segs' s s' t schedule (Ok ran) eb es e h = of_task begins begins' segs segs' s s' t ran
    eb es e (replayed begins segs s t schedule ran h)
task_is_run begins begins' segs segs' s s' t schedule (Err x) eb es e h = tt

-- a group that is at work is left
pub some_left : (groups : List (Vec ℕ Global)) (k : ℕ) → k < length groups → drop k (lists_of groups) ≡ [] → ⊥
some_left [] k lt e = omega arith
some_left (g ∷ gs) zero lt e = cc
some_left (g ∷ gs) (suc k) lt e = some_left gs k (omega arith) e
