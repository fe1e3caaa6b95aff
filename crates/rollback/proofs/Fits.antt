-- The outcome of a run has a token.
use Rattle.std.proofs.Common.{◌≡◌, ℕ, zero, suc, ◌≤◌, ◌==◌, Bool, true, false, cond, List, [], ◌∷◌, length, map}
use Rattle.std.proofs.Common.{unwrap_or, refl, sym, ap, ◌∙◌, subst, length-append, arith}
use Rattle.std.proofs.lemmas.List.{length-map}
use Rattle.std.specs.List.{All, AllByRecursion}
use Rattle.std.specs.declared.cmp.Ordering.{Ordering}
use Rattle.std.specs.declared.cmp.Ordering.TheVariants.{Less, Equal, Greater}
use Rattle.std.specs.FinMap.Entries.{put, by_order}
use Rattle.aeg_base.specs.declared.names.Key.{Key}
use Rattle.aeg_base.specs.Store.{Store, key_cmp, value_at, empty, pairs_of}
use Rattle.aeg_base.specs.Changes.{changes}
use Rattle.aeg_base.proofs.NumberLaws.{entries-with_number}
use Rattle.aeg_base.proofs.StoreLaws.{key_cmp_total}
use Rattle.aeg_base.proofs.ChangeLaws.{sorted_changes}
use Rattle.svc_api.specs.Plan.{IsKey, IsEnding}
use Rattle.svc_api.specs.declared.action.Ending.{Ending}
use Rattle.kv_store.specs.Stores.{size, unwound, touched}
use Rattle.kv_store.specs.Changes.{picked}
use Rattle.kv_store.proofs.Sizes.{size-written}
use Rattle.kv_store.proofs.Differences.{picked_changes}
use Rattle.exec_model.specs.declared.job.Seg.{Seg}
use Rattle.exec_model.specs.declared.job.Job.{Job}
use Rattle.exec_model.specs.Outcomes.{outcome}
use Rattle.exec_model.proofs.Outcome.{run_job-order, run_job-store, run_job-ends}
use Rattle.exec_core.specs.declared.ran.Ran.{Ran}
use Rattle.exec_model.specs.Groups.{IsOrder}
use Rattle.exec_model.specs.Serial.{serial, serial_end}
use Rattle.exec_model.specs.Jobs.{Beginnings, plan_at, said_nothing, below, run_job, serial_store, serial_ends, AreProper}
use Rattle.exec_core.specs.Jobs.{BeginsWell}
use Rattle.exec_core.proofs.Orders.{length_order}
use Rattle.log_values.specs.Outcomes.{FitsPair, FitsOutcome}
use Rattle.log_values.proofs.Rising.{rises_sorted}
use Rattle.rollback.specs.Settled.{serial_outcome}
use Rattle.rollback.specs.Runs.{AreNumbers, WasRun}
use Rattle.rollback.proofs.Bounded.{log_all, unwound-all, DoAll, do_all, bounded_at}

-- THE PAIRS

keys_put : (P : Key → Type 0) (k : Key) (v : ℕ) (es : List (Key × ℕ)) → P k → AllByRecursion (λ e. P e.0) es → AllByRecursion (λ e. P e.0) (put key_cmp k v es)
keys_put P k v [] p h = (p, tt)
keys_put P k v (e ∷ es) p h = at (key_cmp k e.0) (keys_put P k v es p h.1)
  where
    at : (o : Ordering) → AllByRecursion (λ e. P e.0) (put key_cmp k v es)
        → AllByRecursion (λ e. P e.0) (by_order o ((k, v) ∷ e ∷ es) ((e.0, v) ∷ es) (e ∷ put key_cmp k v es))
    at Less r = (p, h)
    at Equal r = (h.0, h.1)
    at Greater r = (h.0, r)

keys_touched : (P : Key → Type 0) (es : List (Key × ℕ)) → AllByRecursion (λ e. P e.0) es → AllByRecursion (λ e. P e.0) (pairs_of (touched es empty))
keys_touched P [] h = tt
keys_touched P (e ∷ es) h = subst (AllByRecursion (λ e. P e.0))
    (sym (entries-with_number key_cmp_total (touched es empty) e.0 1))
    (keys_put P e.0 1 (pairs_of (touched es empty)) h.0 (keys_touched P es h.1))

size_touched : (es : List (Key × ℕ)) → size (touched es empty) ≤ length es
size_touched [] = omega arith
size_touched (e ∷ es) = let a = size-written (touched es empty) e.0 1 in let b = size_touched es in omega arith

length_picked : (s t : Store) (es : List (Key × ℕ)) → length (picked s t es) ≤ length es
length_picked s t [] = omega arith
length_picked s t (e ∷ es) = at (value_at t e.0 == value_at s e.0) (length_picked s t es)
  where
    at : (c : Bool) → length (picked s t es) ≤ length es → length (cond c (picked s t es) ((e.0, value_at t e.0) ∷ picked s t es)) ≤ length (e ∷ es)
    at true h = omega arith
    at false h = omega arith

pairs_picked : (s t : Store) (es : List (Key × ℕ)) → AreNumbers t → AllByRecursion (λ e. IsKey e.0) es → AllByRecursion FitsPair (picked s t es)
pairs_picked s t [] n h = tt
pairs_picked s t (e ∷ es) n h = at (value_at t e.0 == value_at s e.0) (pairs_picked s t es n h.1)
  where
    at : (c : Bool) → AllByRecursion FitsPair (picked s t es) → AllByRecursion FitsPair (cond c (picked s t es) ((e.0, value_at t e.0) ∷ picked s t es))
    at true r = r
    at false r = ((h.0, n e.0), r)

-- THE ENDS

pub length_below : (n : ℕ) → length (below n) ≡ n
length_below zero = refl
length_below (suc n) = let a = length_below n in let b = length-append (below n) (n ∷ []) in omega arith

all_map : {A B : Type 0} (P : B → Type 0) (f : A → B) (xs : List A) → ((x : A) → P (f x)) → AllByRecursion P (map f xs)
all_map P f [] h = tt
all_map P f (x ∷ xs) h = (h x, all_map P f xs h)

-- THE OUTCOME

pub serial_fits : (begins : Beginnings) (segs : List Seg) (s : Store) (order : List ℕ) → AreProper begins
    → All (BeginsWell begins) segs → length segs ≤ 32 → AreNumbers s → IsOrder (length segs) order
    → FitsOutcome (serial_outcome begins segs s order)
unfolding serial_store serial_ends
serial_fits begins segs s order proper each few numbers is_order =
    let plan = plan_at begins segs in
    let d : DoAll plan s order = do_all plan s order (bounded_at begins segs proper each) numbers in
    let t = serial plan s order in
    let es = log_all plan s order in
    let back : unwound es t ≡ s = unwound-all plan s order in
    let long : length order ≤ length segs = length_order (length segs) order (λ i. let e = is_order i in omega arith) in
    let same : picked (unwound es empty) t (pairs_of (touched es empty)) ≡ changes s t = picked_changes es t ∙ ap (λ u. changes u t) back in
    let n = length segs in
    let f : ℕ → Ending = λ i. unwrap_or (serial_end plan s order i) said_nothing in
    record {
      count = (let a = length_picked (unwound es empty) t (pairs_of (touched es empty)) in let b = size_touched
          es in let c = d.few in let e = ap (λ (xs : List (Key × ℕ)). length xs) same in omega arith);
      pairs = subst (AllByRecursion FitsPair) same (pairs_picked (unwound es empty) t (pairs_of (touched es empty)) d.numbers (keys_touched IsKey es d.keys));
      sorted = rises_sorted (changes s t) (sorted_changes s t);
      end_count = (let a = length-map (below n) f in let b = length_below n in omega arith);
      ends = all_map IsEnding f (below n) d.ends;
    }

pub run_fits : (job : Job) (ran : Ran) → WasRun job ran → FitsOutcome ran.outcome
run_fits job ran w =
    let run = run_job w.begins job.segs w.start w.schedule in
    let store : w.finish ≡ serial_store w.begins job.segs w.start run.order = w.made.store ∙ run_job-store w.begins job.segs w.start w.schedule in
    let ends : run.ends ≡ serial_ends w.begins job.segs w.start run.order = run_job-ends w.begins job.segs w.start w.schedule in
    let same : ran.outcome ≡ serial_outcome w.begins job.segs w.start run.order =
    w.made.outcome_is ∙ ap (λ t. outcome w.start t run.ends) store ∙ ap (outcome w.start (serial_store w.begins job.segs w.start run.order)) ends in
    subst FitsOutcome (sym same)
    (serial_fits w.begins job.segs w.start run.order w.proper w.each w.few w.numbers
    (run_job-order w.begins job.segs w.start w.schedule))
