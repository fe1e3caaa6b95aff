-- The theorem.
use Rattle.std.proofs.Common.{◌≡◌, ℕ, ◌≤◌, ◌==◌, Bool, true, false, unwrap_or, List, [], ◌∷◌, ◌++◌, length, Option}
use Rattle.std.proofs.Common.{Some, None, refl, sym, ap, ◌∙◌, subst, inl, inr, cond, ltb, arith, append-nil}
use Rattle.std.specs.Prelude.{map}
use Rattle.std.proofs.lemmas.Bool.Decides.{nat_tests}
use Rattle.aeg_base.specs.Store.{Store}
use Rattle.svc_api.specs.declared.action.Ending.{Ending}
use Rattle.svc_api.specs.Plan.{Plan}
use Rattle.exec_model.specs.Serial.{serial, serial_end}
use Rattle.exec_model.specs.Machine.{State, concat, end_of, turns, start, finish, complete, run}
use Rattle.svc_api.specs.Orders.{mem}
use Rattle.exec_model.specs.Groups.{times, AreFull, IsOrder, mix}
use Rattle.exec_model.specs.declared.job.Seg.{Seg}
use Rattle.exec_model.specs.Jobs.{Beginnings, said_nothing, plan_at, locks_at, below, run_of, run_job, serial_store, serial_ends}
use Rattle.exec_model.proofs.Basics.{or_else}
use Rattle.exec_model.proofs.Lookups.{looks, same_store}
use Rattle.exec_model.proofs.Safe.{Safe-free}
use Rattle.exec_model.proofs.Ready.{Ready, start-ready, turn-ready}
use Rattle.exec_model.proofs.Finish.{CoversAt, Replays, turn-replays, turns-keeps, finish-keeps, finish-ends, AreSame-refl, AreSame-head, AreSame-tail}
use Rattle.exec_model.specs.Spell.{AreSame, spell}
use Rattle.exec_model.proofs.Inv.{Inv, zero_or, head_of, tail_of, concat-split}
use Rattle.exec_model.proofs.Spell.{spelled}
use Rattle.exec_model.proofs.Mixer.{AreFull-mix, times-mix}

pub record Serial (plan : ℕ → Plan) (s : Store) (all : List ℕ) (t : State) : Type 0 where
  pub order : (i : ℕ) → times i t.past ≡ times i all
  pub store : t.store ≡ serial plan s t.past
  pub ends : (i : ℕ) → end_of (t.progress i) ≡ serial_end plan s t.past i

no_times : (xs : List ℕ) → ((i : ℕ) → times i xs ≤ 0) → xs ≡ []
no_times [] h = refl
no_times (x ∷ xs) h = let a = h x in let b = self in absurd (omega arith)
  where
    one : (x == x) ≡ true
    one = grind (arith, nat_tests)

    self : ◌≡◌ {A = ℕ} (cond (x == x) 1 0) 1
    self = ap {B = ℕ} (λ b. cond b 1 0) one

or_none : (x : Option Ending) → or_else x None ≡ x
or_none None = refl
or_none (Some e) = refl

-- where all groups have ended, the run was serial
pub ended-serial : (plan : ℕ → Plan) (s : Store) (all : List ℕ) (t : State) → Inv plan s all t → t.group ≡ [] → t.later ≡ [] → Serial plan s all t
ended-serial plan s all t h g l = record {
  order = λ i. let a = h.parts i in let b : times i t.group ≡ 0 = ap (times i) g in let c : times i (concat t.later)
      ≡ 0 = ap (λ x. times i (concat x)) l in omega arith;
  store = same_store t.store (serial plan t.base t.done)
      (Safe-free plan _ (looks t.store) t.owner t.progress h.safe free) ∙ ap (serial plan t.base) none ∙ h.base_is;
  ends = λ i. h.ends i ∙ ap (λ d. or_else (serial_end plan s t.past i) (serial_end plan t.base d i)) none ∙ or_none _;
}
  where
    none : t.done ≡ []
    none = no_times t.done (λ i. let a = h.inside i in let b : times i t.group ≡ 0 = ap (times i) g in omega arith)

    free : (k : ℕ) → t.owner k ≡ 0
    free k = elim (zero_or (t.owner k)) [ inl e ↦ e | inr z ↦ (let m = (h.held k z.0 z.1).0 in let n = ap (mem z.0) g in cc) ]

pub run-ready : (plan : ℕ → Plan) (groups : List (List ℕ)) (s : Store) (schedule : List ℕ) → AreFull groups
    → ((i : ℕ) → times i (concat groups) ≤ 1) → Ready plan s (concat groups) (run plan groups s schedule)
run-ready plan groups s schedule f one =
    let step = λ (t : State) (i : ℕ) (h : Ready plan s (concat groups) t). turn-ready plan s (concat groups) t i h one in
    let u = turns plan (start plan groups s) schedule in
    finish-keeps plan (Ready plan s (concat groups)) step (u.group ++ concat u.later) u
    (turns-keeps plan (Ready plan s (concat groups)) step schedule _ (start-ready plan groups s f))

pub run-ended : (plan : ℕ → Plan) (groups : List (List ℕ)) (s : Store) (schedule : List ℕ) → AreFull groups
    → ((i : ℕ) → times i (concat groups) ≤ 1) → ((run plan groups s schedule).group ≡ [])
    × ((run plan groups s schedule).later ≡ [])
run-ended plan groups s schedule f one =
    let step = λ (t : State) (i : ℕ) (h : Ready plan s (concat groups) t). turn-ready plan s (concat groups) t i h one in
    let u = turns plan (start plan groups s) schedule in
    finish-ends plan s (concat groups) (u.group ++ concat u.later) u one
    (turns-keeps plan (Ready plan s (concat groups)) step schedule _ (start-ready plan groups s f))
    (record { now = u.group; rest = u.later; all = refl; match = AreSame-refl u.later; run_in = λ j m r. m; from = λ j m. inl m })

pub run-serial : (plan : ℕ → Plan) (groups : List (List ℕ)) (s : Store) (schedule : List ℕ) → AreFull groups
    → ((i : ℕ) → times i (concat groups) ≤ 1) → Serial plan s (concat groups) (run plan groups s schedule)
run-serial plan groups s schedule f one =
    let e = run-ended plan groups s schedule f one in
    ended-serial plan s (concat groups) (run plan groups s schedule) (run-ready plan groups s schedule f one).inv e.0 e.1

complete-ended : (plan : ℕ → Plan) (t : State) → t.group ≡ [] → t.later ≡ [] → complete plan t ≡ t
complete-ended plan t g l = ap (λ xs. finish plan (xs ++ concat t.later) t) g ∙ ap (λ xs. finish plan (concat xs) t) l

-- the steps that were made are a schedule of the same run
pub run-again : (plan : ℕ → Plan) (groups : List (List ℕ)) (s : Store) (schedule : List ℕ) → AreFull groups
    → ((i : ℕ) → times i (concat groups) ≤ 1) → run plan groups s (run plan groups s schedule).steps ≡ run plan groups s schedule
run-again plan groups s schedule f one =
    let t0 = start plan groups s in
    let r = run plan groups s schedule in
    let step = λ (t : State) (i : ℕ) (h : Replays plan t0 t). turn-replays plan t0 t i h in
    let u = turns plan t0 schedule in
    let there : Replays plan t0 r = finish-keeps plan (Replays plan t0) step (u.group ++ concat u.later) u
    (turns-keeps plan (Replays plan t0) step schedule t0 refl) in
    let e = run-ended plan groups s schedule f one in
    ap (complete plan) there ∙ complete-ended plan r e.0 e.1

pub map-same : {A : Type 0} (f g : ℕ → A) (xs : List ℕ) → ((i : ℕ) → f i ≡ g i) → map f xs ≡ map g xs
map-same f g [] h = refl
map-same f g (x ∷ xs) h = λ i. h x i ∷ map-same f g xs h i

pub small : (c : Bool) → cond c 1 0 ≤ 1
small true = omega arith
small false = omega arith

single : (sets : ℕ → List Bool) (n : ℕ) (i : ℕ) → times i (concat (mix sets n)) ≤ 1
single sets n i = let a = times-mix sets n i in let b = small (ltb i n) in omega arith

serial_of : (begins : Beginnings) (segs : List Seg) (s : Store) (schedule : List ℕ)
    → Serial (plan_at begins segs) s (concat (mix (locks_at begins segs) (length segs)))
    (run (plan_at begins segs) (mix (locks_at begins segs) (length segs)) s schedule)
serial_of begins segs s schedule = run-serial (plan_at begins segs) (mix (locks_at begins segs) (length segs)) s
    schedule (AreFull-mix (locks_at begins segs) (length segs)) (single (locks_at begins segs) (length segs))

pub run_job-order : (begins : Beginnings) (segs : List Seg) (s : Store) (schedule : List ℕ) → IsOrder (length segs) (run_job begins segs s schedule).order
unfolding run_job
run_job-order begins segs s schedule i = (serial_of begins segs s schedule).order i ∙ times-mix (locks_at begins segs) (length segs) i

pub run_job-store : (begins : Beginnings) (segs : List Seg) (s : Store) (schedule : List ℕ)
    → (run_job begins segs s schedule).store ≡ serial_store begins segs s (run_job begins segs s schedule).order
unfolding run_job serial_store
run_job-store begins segs s schedule = (serial_of begins segs s schedule).store

pub run_job-ends : (begins : Beginnings) (segs : List Seg) (s : Store) (schedule : List ℕ)
    → (run_job begins segs s schedule).ends ≡ serial_ends begins segs s (run_job begins segs s schedule).order
unfolding run_job serial_ends
run_job-ends begins segs s schedule = map-same _ _ (below (length segs)) (λ i. ap (λ o. unwrap_or o said_nothing) ((serial_of begins segs s schedule).ends i))

pub run_job-steps : (begins : Beginnings) (segs : List Seg) (s : Store) (schedule : List ℕ)
    → run_job begins segs s (run_job begins segs s schedule).steps ≡ run_job begins segs s schedule
unfolding run_job
run_job-steps begins segs s schedule = ap (run_of (length segs))
    (run-again (plan_at begins segs) (mix (locks_at begins segs) (length segs)) s schedule
    (AreFull-mix (locks_at begins segs) (length segs)) (single (locks_at begins segs) (length segs)))

start-covers : (plan : ℕ → Plan) (groups os : List (List ℕ)) (s : Store) → AreSame os groups → CoversAt (concat os) (start plan groups s)
start-covers plan groups os s m = record {
  now = head_of os;
  rest = tail_of os;
  all = concat-split os;
  match = AreSame-tail os groups m;
  run_in = λ j k r. AreSame-head os groups m j ∙ k;
  from = λ j k. inl (sym (AreSame-head os groups m j) ∙ k);
}

pub record Whole (plan : ℕ → Plan) (s : Store) (order : List ℕ) (t : State) : Type 0 where
  pub order_is : t.past ≡ order
  pub redo : t.redo ≡ 0
  pub steps : t.steps ≡ spell plan s order

pub run-spelled : (plan : ℕ → Plan) (groups os : List (List ℕ)) (s : Store) → AreFull groups
    → ((i : ℕ) → times i (concat groups) ≤ 1) → AreSame os groups → ((i : ℕ) → times i (concat os) ≤ 1)
    → Whole plan s (concat os) (run plan groups s (spell plan s (concat os)))
run-spelled plan groups os s f one m once =
    let u = start plan groups s in
    let xs = concat os in
    let v = turns plan u (spell plan s xs) in
    let ready = start-ready plan groups s f in
    let z = spelled plan s (concat groups) xs u one ready (start-covers plan groups os s m) (λ l. refl) (λ j r. refl) once in
    let ready' = turns-keeps plan (Ready plan s (concat groups)) (λ t i h. turn-ready plan s (concat groups) t i h one) (spell plan s xs) u ready in
    let e = finish-ends plan s (concat groups) [] v one ready' z.done in
    let none : v.done ≡ [] = no_times v.done (λ i. let a = ready'.inv.inside i in let b : times i v.group ≡ 0 = ap (times i) e.0 in omega arith) in
    subst (Whole plan s xs) (sym (complete-ended plan v e.0 e.1)) (record {
      order_is = sym (append-nil v.past) ∙ ap (λ d. v.past ++ d) (sym none) ∙ z.order;
      redo = z.redo;
      steps = z.steps;
    })

-- without a schedule the segments go whole, in the order of the groups
pub run-idle : (plan : ℕ → Plan) (groups : List (List ℕ)) (s : Store) → AreFull groups
    → ((i : ℕ) → times i (concat groups) ≤ 1) → Whole plan s (concat groups) (run plan groups s [])
run-idle plan groups s f one =
    let u = start plan groups s in
    let xs = concat groups in
    let v = turns plan u (spell plan s xs) in
    let z = spelled plan s xs xs u one (start-ready plan groups s f) (start-covers plan groups groups s (AreSame-refl groups)) (λ l. refl) (λ j r. refl) one in
    let w = run-spelled plan groups groups s f one (AreSame-refl groups) one in
    let ready = turns-keeps plan (Ready plan s xs) (λ t i h. turn-ready plan s xs t i h one) (spell plan s xs) u (start-ready plan groups s f) in
    let e = finish-ends plan s xs [] v one ready z.done in
    let same : run plan groups s [] ≡ run plan groups s (spell plan s xs) =
    ap (λ is. finish plan is u) (sym (concat-split groups)) ∙ z.finishes ∙ sym (complete-ended plan v e.0 e.1) in
    subst (Whole plan s xs) (sym same) w

-- a schedule that spells an order of whole segments, each group's in any order, gives just that order
pub run_job-spelled : (begins : Beginnings) (segs : List Seg) (s : Store) (os : List (List ℕ))
    → AreSame os (mix (locks_at begins segs) (length segs)) → IsOrder (length segs) (concat os) →
    ((run_job begins segs s (spell (plan_at begins segs) s (concat os))).order ≡ concat os)
    × ((run_job begins segs s (spell (plan_at begins segs) s (concat os))).redo ≡ 0)
    × ((run_job begins segs s (spell (plan_at begins segs) s (concat os))).steps ≡ spell (plan_at begins segs) s (concat os))
unfolding run_job
run_job-spelled begins segs s os m o =
    let z = run-spelled (plan_at begins segs) (mix (locks_at begins segs) (length segs)) os s
    (AreFull-mix (locks_at begins segs) (length segs)) (single (locks_at begins segs) (length segs)) m
    (λ i. let a = o i in let b = small (ltb i (length segs)) in omega arith) in
    (z.order_is, z.redo, z.steps)

-- a machine that has made just these steps, and has ended, is the run by these steps
pub machine-is_run : (plan : ℕ → Plan) (groups : List (List ℕ)) (s : Store) (steps : List ℕ) (t : State)
    → turns plan (start plan groups s) steps ≡ t → t.group ≡ [] → t.later ≡ [] → run plan groups s steps ≡ t
machine-is_run plan groups s steps t e g l = ap (complete plan) e ∙ complete-ended plan t g l
