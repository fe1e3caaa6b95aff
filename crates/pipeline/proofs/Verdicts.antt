-- What a verdict makes of the next round.
use Rattle.std.proofs.Common.{◌≡◌, Bool, true, false, not, List, length, Option, Some, None, Result, Ok, Err, refl, sym, ap, ◌∙◌, subst}
use Rattle.std.specs.Prelude.{IfSome, IfOk, IsTrue, if◌then◌else◌}
use Rattle.svc_api.specs.declared.outcome.Outcome.{Outcome}
use Rattle.exec_model.specs.declared.job.Seg.{Seg}
use Rattle.exec_model.specs.declared.job.Job.{Job}
use Rattle.log_values.specs.declared.entry.Entry.{Entry}
use Rattle.log_values.specs.declared.mid_value.Verdict.{Verdict}
use Rattle.log_values.specs.declared.mid_value.Verdict.TheVariants.{Commit, Serial}
use Rattle.round_model.specs.Lists.{and_then, is_some, below}
use Rattle.round_model.specs.Service.{Programs, Table, Finish, finish, finish_by}
use Rattle.round_model.specs.Settling.{fits, finish_of}
use Rattle.round_model.specs.Tables.{Tables, Want, Number, Codes, job_of}
use Rattle.pipeline.specs.States.{RoundsState, next_wants}
use Rattle.pipeline.specs.Kept.{IsInRange}
use Rattle.pipeline.specs.Jobs.{is_serial, job_with, misfits, misfits_as, next_job, next_missing, tells_well, told}
use Rattle.pipeline.specs.Answers.{is_misfit, job_settled, settled_by, settled_of}
use Rattle.pipeline.specs.declared.rounds.Settled.{Settled}
use Rattle.pipeline.specs.declared.rounds.Settled.TheVariants.{Ready, Misfit}
use Rattle.pipeline.proofs.Missing.{asked_by, job_found, job_lacking}
use Rattle.pipeline.proofs.Fitting.{fits_is}
use Rattle.pipeline.proofs.Ready.{job_is, job_isnt}

-- a Commit leaves the job where its token tells well
abbrev by_test : Job → Bool → Settled
by_test job b = if b then Ready job else Misfit

abbrev job_tells : Table → RoundsState → Codes → List Entry → Option Outcome → Bool
job_tells table s A fresh o = tells_well table (job_with s A fresh).segs o

-- what holds of the job where it is there
settled_has : (P : Job → Type 0) (table : Table) (s : RoundsState) (A : Codes) (fresh : List Entry) (v : Verdict) (R : Type 0)
    → IfSome (job_settled (settled_of table s A fresh v)) (λ job. R) → (R → P (job_with s A fresh)) → IfSome (job_settled (settled_of table s A fresh v)) P
settled_has P table s A fresh (Commit token order) R r p = at (job_tells table s A fresh (told token)) r
  where
    at : (b : Bool) → IfSome (job_settled (by_test (job_with s A fresh) b)) (λ job. R) → IfSome (job_settled (by_test (job_with s A fresh) b)) P
    at true r = p r
    at false r = tt
settled_has P table s A fresh Serial R r p = at (next_missing s A fresh) r
  where
    at : (q : Option Number) → IfSome (job_settled (settled_by (job_with s A fresh) q)) (λ job. R)
        → IfSome (job_settled (settled_by (job_with s A fresh) q)) P
    at None r = p r
    at (Some k) r = tt

pub each_settled : {E : Type 0} (P : Job → Type 0) (table : Table) (s : RoundsState) (A : Codes) (fresh : List Entry) (v : Verdict) (r : Result Settled E)
    → (IsInRange s → P (job_with s A fresh))
    → IfOk r (λ x. x ≡ settled_of table s A fresh v) → IfOk r (λ x. IfSome (job_settled x) (λ job. IsInRange s)) → IfOk r (λ x. IfSome (job_settled x) P)
each_settled P table s A fresh v (Err e) p is k = tt
each_settled P table s A fresh v (Ok x) p is k =
    let kept : IfSome (job_settled (settled_of table s A fresh v)) (λ job. IsInRange s) = subst (λ y. IfSome (job_settled y) (λ job. IsInRange s)) is k in
    subst (λ y. IfSome (job_settled y) P) (sym is) (settled_has P table s A fresh v (IsInRange s) kept p)

pub serial_job : (table : Table) (s : RoundsState) (A : Codes) (fresh : List Entry) (v : Verdict) → IsTrue (is_serial v)
    → job_settled (settled_of table s A fresh v) ≡ next_job s A fresh
serial_job table s A fresh (Commit token order) h = absurd (cc)
serial_job table s A fresh Serial h = at (next_missing s A fresh) refl
  where
    at : (q : Option Number) → next_missing s A fresh ≡ q → job_settled (settled_by (job_with s A fresh) q) ≡ next_job s A fresh
    at None e = sym (job_is s A fresh e)
    at (Some k) e = sym (job_isnt s A fresh k e)

-- MISFITS

-- a token tells well exactly where it doesn't misfit
tells : (m : Programs) (s : RoundsState) (A : Codes) (fresh : List Entry) (o : Option Outcome)
    → misfits_as m (next_wants s fresh) o ≡ not (job_tells m.table s A fresh o)
tells m s A fresh None = refl
tells m s A fresh (Some o) = ap not (fits_is m (next_wants s fresh) (job_with s A fresh).segs o.ends (asked_by A (next_wants s fresh)))

pub misfit_is : (table : Table) (m : Programs) (s : RoundsState) (A : Codes) (fresh : List Entry) (v : Verdict) → m.table ≡ table → m.read ≡ told
    → is_misfit (settled_of table s A fresh v) ≡ misfits m (next_wants s fresh) v
misfit_is table m s A fresh (Commit token order) t r =
    at (job_tells table s A fresh (told token))
    ∙ ap (λ z. not (job_tells z s A fresh (told token))) (sym t)
    ∙ sym (tells m s A fresh (told token))
    ∙ ap (λ z. misfits_as m (next_wants s fresh) (z token)) (sym r)
  where
    at : (b : Bool) → is_misfit (by_test (job_with s A fresh) b) ≡ not b
    at true = refl
    at false = refl
misfit_is table m s A fresh Serial t r = at (next_missing s A fresh)
  where
    at : (q : Option Number) → is_misfit (settled_by (job_with s A fresh) q) ≡ false
    at None = refl
    at (Some k) = refl

-- WHAT A VERDICT COMES TO

abbrev finish_told : Programs → List Want → Tables → Option Outcome → Option Finish
finish_told m ws T o = and_then o (λ o. if fits m ws o.ends then Some (finish_by T.store o) else None)

finishes : (m : Programs) (s : RoundsState) (A : Codes) (fresh : List Entry) (T : Tables) (o : Option Outcome)
    → is_some (finish_told m (next_wants s fresh) T o) ≡ job_tells m.table s A fresh o
finishes m s A fresh T None = refl
finishes m s A fresh T (Some o) =
    at (fits m (next_wants s fresh) o.ends)
    ∙ fits_is m (next_wants s fresh) (job_with s A fresh).segs o.ends (asked_by A (next_wants s fresh))
  where
    at : (b : Bool) → is_some (if b then Some (finish_by T.store o) else None) ≡ b
    at true = refl
    at false = refl

abbrev ran : Programs → Tables → List Seg → Option Finish
ran m T J = Some (finish m J (below (length J)) T.store)

pub ready_is : (table : Table) (m : Programs) (s : RoundsState) (A : Codes) (fresh : List Entry) (T : Tables) (v : Verdict) → m.table ≡ table
    → m.read ≡ told → is_some (job_settled (settled_of table s A fresh v)) ≡ is_some (finish_of m A (next_wants s fresh) T v)
ready_is table m s A fresh T (Commit token order) t r =
    at (job_tells table s A fresh (told token))
    ∙ ap (λ z. job_tells z s A fresh (told token)) (sym t)
    ∙ sym (finishes m s A fresh T (told token))
    ∙ ap (λ z. is_some (finish_told m (next_wants s fresh) T (z token))) (sym r)
  where
    at : (b : Bool) → is_some (job_settled (by_test (job_with s A fresh) b)) ≡ b
    at true = refl
    at false = refl
ready_is table m s A fresh T Serial t r = at (next_missing s A fresh) refl
  where
    at : (q : Option Number) → next_missing s A fresh ≡ q
        → is_some (job_settled (settled_by (job_with s A fresh) q)) ≡ is_some (and_then (job_of A (next_wants s fresh)) (ran m T))
    at None e = ap (λ o. is_some (and_then o (ran m T))) (sym (job_found A (next_wants s fresh) e))
    at (Some k) e = ap (λ o. is_some (and_then o (ran m T))) (sym (job_lacking A (next_wants s fresh) k e))
