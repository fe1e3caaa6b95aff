-- A segment's program does what the job says.
use Rattle.std.proofs.Common.{◌≡◌, ℕ, zero, suc, ◌<◌, Bool, List, [], ◌∷◌, length, get_or, Option, Some, None, sym, ap, arith}
use Rattle.svc_api.specs.Plan.{Plan}
use Rattle.svc_api.specs.Segment.{Beginning, Begins}
use Rattle.exec_model.specs.declared.job.Seg.{Seg}
use Rattle.exec_model.specs.Jobs.{Beginnings, plan_in, locks_in, plan_at, locks_at}

pub plan_at-seg : (begins : Beginnings) (segs : List Seg) (i : ℕ) (x : Seg) → i < length segs → x ≡ get_or segs i x
    → plan_at begins segs i ≡ plan_in (begins x.who x.body x.stage) x.answer
plan_at-seg begins [] i x lt e = absurd (omega arith)
plan_at-seg begins (y ∷ ys) zero x lt e = ap (λ (s : Seg). plan_in (begins s.who s.body s.stage) s.answer) (sym e)
plan_at-seg begins (y ∷ ys) (suc i) x lt e = plan_at-seg begins ys i x (omega arith) e

pub locks_at-seg : (begins : Beginnings) (segs : List Seg) (i : ℕ) (x : Seg) → i < length segs → x ≡ get_or segs i x
    → locks_at begins segs i ≡ locks_in (begins x.who x.body x.stage)
locks_at-seg begins [] i x lt e = absurd (omega arith)
locks_at-seg begins (y ∷ ys) zero x lt e = ap (λ (s : Seg). locks_in (begins s.who s.body s.stage)) (sym e)
locks_at-seg begins (y ∷ ys) (suc i) x lt e = locks_at-seg begins ys i x (omega arith) e

pub begins_plan : {P : Type 0} (plan : P → Option ℕ → Plan) (budget : P → ℕ) (locks : P
    → List Bool) (o : Option Beginning) (p : P) → Begins plan budget locks o (Some p) → (answer : Option ℕ)
    → plan p answer ≡ plan_in o answer
begins_plan plan budget locks None p h answer = absurd h
begins_plan plan budget locks (Some b) p h answer = h.0 answer

pub begins_locks : {P : Type 0} (plan : P → Option ℕ → Plan) (budget : P → ℕ) (locks : P
    → List Bool) (o : Option Beginning) (p : P) → Begins plan budget locks o (Some p) → locks p ≡ locks_in o
begins_locks plan budget locks None p h = absurd h
begins_locks plan budget locks (Some b) p h = h.1.0
