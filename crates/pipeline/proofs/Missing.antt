-- Jobs whose answers are there, and the first that isn't.
use Rattle.std.proofs.Common.{◌≡◌, ℕ, Bool, true, false, not, List, [], ◌∷◌, ◌++◌, map, Option, Some, None, if◌then◌else◌, refl, ap}
use Rattle.log_values.specs.declared.entry.Entry.{Entry}
use Rattle.exec_model.specs.declared.job.Seg.{Seg}
use Rattle.round_model.specs.Lists.{and_then, is_some}
use Rattle.round_model.specs.Tables.{Want, Number, Codes, Parked, as_seg, answered, job_of, is_missing, first_missing, resumed, started}
use Rattle.pipeline.specs.Jobs.{seg_by, code_for, unanswered, asks_for}

-- fresh entries ask for no answer
started_lack : (A : Codes) (es : List Entry) → first_missing A (map started es) ≡ None
started_lack A [] = refl
started_lack A (e ∷ es) = started_lack A es

pub missing_resumed : (A : Codes) (ps : List Parked) (es : List Entry) → first_missing A (map resumed ps ++ map started es) ≡ first_missing A (map resumed ps)
missing_resumed A [] es = started_lack A es
missing_resumed A (p ∷ ps) es = at (is_missing A (Some (record { tier = p.tier; num = p.num }))) (missing_resumed A ps es)
  where
    at : (b : Bool) → first_missing A (map resumed ps ++ map started es) ≡ first_missing A (map resumed ps)
        → (if b then Some (record { tier = p.tier; num = p.num }) else first_missing A (map resumed ps ++ map started es))
        ≡ (if b then Some (record { tier = p.tier; num = p.num }) else first_missing A (map resumed ps))
    at true e = refl
    at false e = e

-- where none is missing, the job has each answer
pub job_found : (A : Codes) (ws : List Want) → first_missing A ws ≡ None → job_of A ws ≡ Some (map (seg_by A) ws)
job_found A [] h = refl
job_found A (w ∷ ws) h = at w.call h (λ j k. ap (λ o. and_then o (λ js. Some (j ∷ js))) (job_found A ws k))
  where
    Rest : Type 0
    Rest = (j : Seg) → first_missing A ws ≡ None → and_then (job_of A ws) (λ js. Some (j ∷ js)) ≡ Some (j ∷ map (seg_by A) ws)

    held : (k : Number) (o : Option ℕ) → (if not (is_some o) then Some k else first_missing A ws) ≡ None → Rest
        → and_then (and_then o (λ code. Some (as_seg w (Some code)))) (λ j. and_then (job_of A ws) (λ js. Some (j ∷ js)))
        ≡ Some (as_seg w o ∷ map (seg_by A) ws)
    held k None n rest = absurd (cc)
    held k (Some code) n rest = rest (as_seg w (Some code)) n

    at : (q : Option Number) → (if is_missing A q then q else first_missing A ws) ≡ None → Rest
        → and_then (answered A w q) (λ j. and_then (job_of A ws) (λ js. Some (j ∷ js))) ≡ Some (as_seg w (code_for A q) ∷ map (seg_by A) ws)
    at None n rest = rest (as_seg w None) n
    at (Some k) n rest = held k (A k.tier k.num) n rest

-- where one is missing, there is no job
pub job_lacking : (A : Codes) (ws : List Want) (k : Number) → first_missing A ws ≡ Some k → job_of A ws ≡ None
job_lacking A [] k h = absurd (cc)
job_lacking A (w ∷ ws) k h = at w.call h (λ j e. ap (λ o. and_then o (λ js. Some (j ∷ js))) (job_lacking A ws k e))
  where
    Rest : Type 0
    Rest = (j : Seg) → first_missing A ws ≡ Some k → and_then (job_of A ws) (λ js. Some (j ∷ js)) ≡ None

    held : (q : Number) (o : Option ℕ) → (if not (is_some o) then Some q else first_missing A ws) ≡ Some k → Rest
        → and_then (and_then o (λ code. Some (as_seg w (Some code)))) (λ j. and_then (job_of A ws) (λ js. Some (j ∷ js))) ≡ None
    held q None e rest = refl
    held q (Some code) e rest = rest (as_seg w (Some code)) e

    at : (q : Option Number) → (if is_missing A q then q else first_missing A ws) ≡ Some k → Rest
        → and_then (answered A w q) (λ j. and_then (job_of A ws) (λ js. Some (j ∷ js))) ≡ None
    at None e rest = rest (as_seg w None) e
    at (Some q) e rest = held q (A q.tier q.num) e rest

-- but for their answers, segments are those of the wants
pub asked_by : (A : Codes) (ws : List Want) → map unanswered (map (seg_by A) ws) ≡ map asks_for ws
asked_by A [] = refl
asked_by A (w ∷ ws) = ap (λ js. asks_for w ∷ js) (asked_by A ws)
