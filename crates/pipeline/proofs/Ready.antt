-- The job of the next round, and whether it is ready.
use Rattle.std.proofs.Common.{◌≡◌, ◌≤◌, List, map, length, Option, Some, None, Result, Ok, Err, Bor, refl, sym, ap, ◌∙◌, subst}
use Rattle.std.specs.Prelude.{IfSome, IfOk, OnErr}
use Rattle.std.specs.List.{All}
use Rattle.exec_model.specs.declared.job.Seg.{Seg}
use Rattle.exec_model.specs.declared.job.Job.{Job}
use Rattle.log_values.specs.declared.entry.Entry.{Entry}
use Rattle.round_model.specs.Lists.{and_then, head_of}
use Rattle.round_model.specs.Tables.{Number, Codes, Parked, first_missing, resumed}
use Rattle.pipeline.specs.States.{RoundsState, next_wants}
use Rattle.pipeline.specs.Kept.{IsInRange}
use Rattle.pipeline.specs.Jobs.{AreFresh, IsAsked, IsNextJob, in_round, job_with, next_job, next_missing, read}
use Rattle.pipeline.specs.Answers.{job_in, state_by, state_of}
use Rattle.pipeline.specs.declared.rounds.JobState.{JobState}
use Rattle.pipeline.proofs.Missing.{asked_by, job_found, job_lacking, missing_resumed}
use Rattle.pipeline.proofs.Wants.{asked_segs, few_segs}

-- THE JOB

pub job_is : (s : RoundsState) (A : Codes) (fresh : List Entry) → next_missing s A fresh ≡ None → next_job s A fresh ≡ Some (job_with s A fresh)
job_is s A fresh h = ap (λ o. and_then o (in_round s.next)) (job_found A (next_wants s fresh) h)

pub job_isnt : (s : RoundsState) (A : Codes) (fresh : List Entry) (k : Number) → next_missing s A fresh ≡ Some k → next_job s A fresh ≡ None
job_isnt s A fresh k h = ap (λ o. and_then o (in_round s.next)) (job_lacking A (next_wants s fresh) k h)

pub is_next : (s : RoundsState) (A : Codes) (fresh : List Entry) → AreFresh s fresh → IsNextJob s fresh (job_with s A fresh)
is_next s A fresh f = record { fresh_ones = f; round = refl; segs = asked_by A (next_wants s fresh) }

pub few_next : (s : RoundsState) (A : Codes) (fresh : List Entry) → AreFresh s fresh → IsInRange s → length (job_with s A fresh).segs ≤ 16
few_next s A fresh f k = few_segs s fresh (job_with s A fresh).segs k f (asked_by A (next_wants s fresh))

pub asked_next : (s : RoundsState) (A : Codes) (fresh : List Entry) → AreFresh s fresh → IsInRange s → All IsAsked (job_with s A fresh).segs
asked_next s A fresh f k = asked_segs s fresh (job_with s A fresh).segs k f (asked_by A (next_wants s fresh))

pub asked_now : (x s : RoundsState) (A : Codes) (fresh : List Entry) (job : Job) (js : List Seg) → x ≡ s → IsInRange x → AreFresh s fresh
    → job ≡ job_with s A fresh → js ≡ job.segs → All IsAsked js
asked_now x s A fresh job js same k f is segs =
    let own : js ≡ (job_with s A fresh).segs = segs ∙ ap (λ (z : Job). z.segs) is in
    subst (All IsAsked) (sym own) (asked_next s A fresh f (subst IsInRange same k))

-- what is missing, by the requests that wait longest
pub missing_now : (s : RoundsState) (A : Codes) (fresh : List Entry) (ps : List Parked) (o : Option Number) → ps ≡ head_of s.queue
    → o ≡ first_missing A (map resumed ps) → o ≡ next_missing s A fresh
missing_now s A fresh ps o e h = h ∙ ap (λ z. first_missing A (map resumed z)) e ∙ sym (missing_resumed A (head_of s.queue) fresh)

-- WHETHER IT IS READY

pub state_job : (s : RoundsState) (A : Codes) (o : Option (List Entry)) → job_in (state_of s A o) ≡ and_then o (next_job s A)
state_job s A None = refl
state_job s A (Some fresh) = at (next_missing s A fresh) refl
  where
    at : (q : Option Number) → next_missing s A fresh ≡ q → job_in (state_by (job_with s A fresh) q) ≡ next_job s A fresh
    at None e = sym (job_is s A fresh e)
    at (Some k) e = sym (job_isnt s A fresh k e)

-- what holds of the job where it is ready
ready_has : (P : Job → Type 0) (job : Job) (q : Option Number) (R : Type 0) → IfSome (job_in (state_by job q)) (λ job. R) → (R → P job)
    → IfSome (job_in (state_by job q)) P
ready_has P job None R r p = p r
ready_has P job (Some k) R r p = tt

pub each_ready : {E : Type 0} (P : Job → Type 0) (s : RoundsState) (A : Codes) (o : Option (Bor (List Entry))) (r : Result JobState E)
    → ((es : Bor (List Entry)) → o ≡ Some es → IsInRange s → P (job_with s A es.now))
    → IfOk r (λ x. x ≡ state_of s A (read o)) → IfOk r (λ x. IfSome (job_in x) (λ job. IsInRange s)) → IfOk r (λ x. IfSome (job_in x) P)
each_ready P s A o (Err e) p is k = tt
each_ready P s A None (Ok x) p is k = subst (λ y. IfSome (job_in y) P) (sym is) tt
each_ready P s A (Some es) (Ok x) p is k =
    let kept : IfSome (job_in (state_of s A (Some es.now))) (λ job. IsInRange s) = subst (λ y. IfSome (job_in y) (λ job. IsInRange s)) is k in
    subst (λ y. IfSome (job_in y) P) (sym is) (ready_has P (job_with s A es.now) (next_missing s A es.now) (IsInRange s) kept (p es refl))

pub ready_now : (s : RoundsState) (A : Codes) (o : Option (Bor (List Entry))) (es : Bor (List Entry)) → o ≡ Some es → None ≡ next_missing s A es.now
    → state_by (job_with s A es.now) None ≡ state_of s A (read o)
ready_now s A o es is none = ap (state_by (job_with s A es.now)) none ∙ sym (ap (λ z. state_of s A (read z)) is)

-- WANT OF MEMORY

pub on_err : {T E : Type 0} (P : Type 0) (r : Result T E) → P → OnErr r P
on_err P (Ok x) p = tt
on_err P (Err e) p = p
