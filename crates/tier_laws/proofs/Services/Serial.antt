-- A run comes to what its segments come to one after another, by the table.
use Rattle.std.proofs.Common.{◌≡◌, ℕ, zero, suc, Bool, true, false, cond, List, [], ◌∷◌, ◌++◌, length, map, refl, sym, ap, ◌∙◌, Option, Some, None, unwrap_or}
use Rattle.std.specs.Prelude.{slice_get, ◌==◌}
use Rattle.std.proofs.lemmas.List.{map-append}
use Rattle.aeg_base.specs.Store.{Store}
use Rattle.aeg_base.specs.declared.names.ReqId.{ReqId}
use Rattle.svc_api.specs.Plan.{Plan, store_after, ending_of}
use Rattle.svc_api.specs.Segment.{Segment, Beginning, Folds, segment_of}
use Rattle.svc_api.specs.declared.action.Ending.{Ending}
use Rattle.exec_model.specs.declared.job.Seg.{Seg}
use Rattle.svc_api.proofs.Orders.{order_in}
use Rattle.exec_model.specs.Jobs.{Beginnings, said_nothing, plan_in, plan_at, below, run_job, serial_store, serial_ends}
use Rattle.exec_model.specs.Serial as plans
use Rattle.exec_model.proofs.Outcome.{run_job-order, run_job-store, run_job-ends}
use Rattle.round_model.specs.Lists.{tabulate}
use Rattle.round_model.specs.Service.{Programs, row_of, segment, serial, serial_end, is_order}

-- the programs come to the table
abbrev pub Agrees : Programs → Type 0
Agrees m = (who : ReqId) (body : List ℕ) (stage : ℕ) → Folds (m.begins who body stage) (m.table who body stage)

-- ONE SEGMENT

segment_in : (o : Option Beginning) (row : Option (Option ℕ → Store → Segment)) (answer : Option ℕ) (s : Store)
    → Folds o row → segment_of (plan_in o answer) s ≡ row_of row answer s
segment_in None None answer s h = refl
segment_in None (Some row) answer s h = absurd h
segment_in (Some b) None answer s h = absurd h
segment_in (Some b) (Some row) answer s h = h answer s

pub segment_is : (m : Programs) → Agrees m → (J : List Seg) (i : ℕ) (s : Store) → segment_of (plan_at m.begins J i) s ≡ segment m (slice_get J i) s
segment_is m a [] i s = refl
segment_is m a (x ∷ xs) zero s = segment_in (m.begins x.who x.body x.stage) (m.table x.who x.body x.stage) x.answer s (a x.who x.body x.stage)
segment_is m a (x ∷ xs) (suc i) s = segment_is m a xs i s

-- ONE AFTER ANOTHER

pub serial_is : (m : Programs) → Agrees m → (J : List Seg) (order : List ℕ) (s : Store) → plans.serial (plan_at m.begins J) s order ≡ serial m J order s
serial_is m a J [] s = refl
serial_is m a J (i ∷ is) s = serial_is m a J is (store_after (plan_at m.begins J i) s) ∙ ap (λ (g : Segment). serial m J is g.store) (segment_is m a J i s)

pub end_is : (m : Programs) → Agrees m → (J : List Seg) (order : List ℕ) (s : Store) (k : ℕ)
    → unwrap_or (plans.serial_end (plan_at m.begins J) s order k) said_nothing ≡ serial_end m J order s k
end_is m a J [] s k = refl
end_is m a J (i ∷ is) s k = at (i == k) (end_is m a J is (store_after p s) k)
  where
    p : Plan
    p = plan_at m.begins J i

    at : (b : Bool) → unwrap_or (plans.serial_end (plan_at m.begins J) (store_after p s) is k) said_nothing ≡ serial_end m J is (store_after p s) k
        → unwrap_or (cond b (Some (ending_of p s)) (plans.serial_end (plan_at m.begins J) (store_after p s) is k))
        said_nothing ≡ cond b (segment m (slice_get J i) s).ending (serial_end m J is (segment m (slice_get J i) s).store k)
    at true h = ap (λ (g : Segment). g.ending) (segment_is m a J i s)
    at false h = h ∙ ap (λ (g : Segment). serial_end m J is g.store k) (segment_is m a J i s)

-- LISTS

tabulate-push : {A : Type 0} (n : ℕ) (f : ℕ → A) → tabulate (suc n) f ≡ tabulate n f ++ f n ∷ []
tabulate-push zero f = refl
tabulate-push (suc n) f = ap (λ xs. f 0 ∷ xs) (tabulate-push n (λ i. f (suc i)))

pub map-below : {A : Type 0} (f : ℕ → A) (n : ℕ) → map f (below n) ≡ tabulate n f
map-below f zero = refl
map-below f (suc n) = map-append f (below n) (n ∷ []) ∙ ap (λ xs. xs ++ f n ∷ []) (map-below f n) ∙ sym (tabulate-push n f)

pub tabulate-same : {A : Type 0} (n : ℕ) (f g : ℕ → A) → ((i : ℕ) → f i ≡ g i) → tabulate n f ≡ tabulate n g
tabulate-same zero f g h = refl
tabulate-same (suc n) f g h = λ i. h 0 i ∷ tabulate-same n (λ k. f (suc k)) (λ k. g (suc k)) (λ k. h (suc k)) i

-- THE RUN OF A JOB

pub run-order : (begins : Beginnings) (J : List Seg) (s : Store) (schedule : List ℕ) → is_order (length J) (run_job begins J s schedule).order ≡ true
run-order begins J s schedule = order_in (length J) (run_job begins J s schedule).order (run_job-order begins J s schedule)

pub run-store : (m : Programs) → Agrees m → (J : List Seg) (s : Store) (schedule : List ℕ)
    → (run_job m.begins J s schedule).store ≡ serial m J (run_job m.begins J s schedule).order s
unfolding serial_store
run-store m a J s schedule = run_job-store m.begins J s schedule ∙ serial_is m a J (run_job m.begins J s schedule).order s

pub run-ends : (m : Programs) → Agrees m → (J : List Seg) (s : Store) (schedule : List ℕ)
    → (run_job m.begins J s schedule).ends ≡ tabulate (length J) (serial_end m J (run_job m.begins J s schedule).order s)
unfolding serial_ends
run-ends m a J s schedule = run_job-ends m.begins J s schedule ∙ map-below ends (length J)
    ∙ tabulate-same (length J) ends (serial_end m J order s) (end_is m a J order s)
  where
    order : List ℕ
    order = (run_job m.begins J s schedule).order

    ends : ℕ → Ending
    ends i = unwrap_or (plans.serial_end (plan_at m.begins J) s order i) said_nothing
