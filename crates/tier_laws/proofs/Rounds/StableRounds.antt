-- What rounds come to stays as it is when log and answers grow.
use Rattle.std.proofs.Common.{◌≡◌, ℕ, ◌+◌, ◌*◌, List, [], ◌∷◌, refl, sym, ap, ◌∙◌, Option, Some, None, zero, suc}
use Rattle.std.specs.Prelude.{slice_get}
use Rattle.aeg_base.specs.declared.names.Tier.{Tier}
use Rattle.exec_model.specs.declared.job.Seg.{Seg}
use Rattle.log_values.specs.declared.any_value.AnyValue.{AnyValue}
use Rattle.log_values.specs.declared.entry.Entry.{Entry}
use Rattle.log_values.specs.declared.mid_value.Verdict.{Verdict}
use Rattle.round_model.specs.After.{Round, after, batch_at, batch_in, done, round, round_at, verdict_at, verdict_in}
use Rattle.round_model.specs.Lists.{and_then}
use Rattle.round_model.specs.Service.{Service}
use Rattle.round_model.specs.Tables.{Codes as Answers, Number, Tables, Want, answered, as_seg, job_of, wants}

pub then_parts : {A C : Type 0} (o : Option A) (f : A → Option C) (c : C) → and_then o f ≡ Some c → (a : A) × (o ≡ Some a) × (f a ≡ Some c)
then_parts None f c e = absurd (cc)
then_parts (Some a) f c e = (a, refl, e)

pub then_some : {A C : Type 0} (o : Option A) (f : A → Option C) (a : A) (c : C) → o ≡ Some a → f a ≡ Some c → and_then o f ≡ Some c
then_some o f a c e g = rw e g

pub record MoreAnswers (A B : Answers) : Type 0 where
  pub at : (t : Tier) (n code : ℕ) → A t n ≡ Some code → B t n ≡ Some code

pub record MoreLog {V : Type 0} (L K : List V) : Type 0 where
  pub at : (i : ℕ) (v : V) → slice_get L i ≡ Some v → slice_get K i ≡ Some v

pub answered-more : (A B : Answers) (w : Want) (k : Option Number) (j : Seg) → MoreAnswers A B → answered A w k ≡ Some j → answered B w k ≡ Some j
answered-more A B w None j g e = e
answered-more A B w (Some k) j g e =
    let p = then_parts (A k.tier k.num) (λ code. Some (as_seg w (Some code))) j e in
    then_some (B k.tier k.num) (λ code. Some (as_seg w (Some code))) p.0 j (g.at k.tier k.num p.0 p.1) p.2

pub job-more : (A B : Answers) (ws : List Want) (J : List Seg) → MoreAnswers A B → job_of A ws ≡ Some J → job_of B ws ≡ Some J
job-more A B [] J g e = e
job-more A B (w ∷ ws) J g e =
    let p = then_parts (answered A w w.call) (λ j. and_then (job_of A ws) (λ js. Some (j ∷ js))) J e in
    let q = then_parts (job_of A ws) (λ js. Some (p.0 ∷ js)) J p.2 in
    then_some (answered B w w.call) (λ j. and_then (job_of B ws) (λ js. Some (j ∷ js))) p.0 J (answered-more A B w w.call p.0 g p.1)
    (then_some (job_of B ws) (λ js. Some (p.0 ∷ js)) q.0 J (job-more A B ws q.0 g q.1) q.2)

pub batch_in-some : (o : Option AnyValue) (es : List Entry) → batch_in o ≡ Some es → (v : AnyValue) × (o ≡ Some v) × (batch_in (Some v) ≡ Some es)
batch_in-some None es e = absurd (cc)
batch_in-some (Some v) es e = (v, refl, e)

pub verdict_in-some : (o : Option AnyValue) (w : Verdict) → verdict_in o ≡ Some w → (v : AnyValue) × (o ≡ Some v) × (verdict_in (Some v) ≡ Some w)
verdict_in-some None w e = absurd (cc)
verdict_in-some (Some v) w e = (v, refl, e)

pub batch-more : (L K : List AnyValue) (r : ℕ) (es : List Entry) → MoreLog L K → batch_at L r ≡ Some es → batch_at K r ≡ Some es
batch-more L K r es g e = let p = batch_in-some (slice_get L (2 * r)) es e in ap batch_in (g.at (2 * r) p.0 p.1) ∙ p.2

pub verdict-more : (L K : List AnyValue) (r : ℕ) (w : Verdict) → MoreLog L K → verdict_at L r ≡ Some w → verdict_at K r ≡ Some w
verdict-more L K r w g e = let p = verdict_in-some (slice_get L (2 * r + 1)) w e in ap verdict_in (g.at (2 * r + 1) p.0 p.1) ∙ p.2

-- the parts of a round
pub record RoundParts {B : Type 0} (m : Service B) (L : List AnyValue) (A : Answers) (r : ℕ) (T : Tables) (R : Round) : Type 0 where
  pub batch : List Entry
  pub is_batch : batch_at L r ≡ Some batch
  pub is_job : job_of A (wants m.programs T batch) ≡ Some R.job
  pub is_wants : R.wants ≡ wants m.programs T batch
  pub is_tables : R.tables ≡ T

pub round_parts : {B : Type 0} (m : Service B) (L : List AnyValue) (A : Answers) (r : ℕ) (T : Tables) (R : Round)
    → round_at m.programs L A r T ≡ Some R → RoundParts m L A r T R
round_parts m L A r T R e =
    let p = then_parts (batch_at L r)
    (λ es. and_then (job_of A (wants m.programs T es))
    (λ J. Some (record { tables = T; wants = wants m.programs T es; job = J }))) R e in
    let q = then_parts (job_of A (wants m.programs T p.0)) (λ J. Some (record { tables = T; wants = wants m.programs T p.0; job = J })) R p.2 in
    let same : record { tables = T; wants = wants m.programs T p.0; job = q.0 } ≡ R = cc in
    record {
      batch = p.0;
      is_batch = p.1;
      is_job = q.1 ∙ ap (λ (z : Round). Some z.job) same;
      is_wants = sym (ap (λ (z : Round). z.wants) same);
      is_tables = sym (ap (λ (z : Round). z.tables) same);
    }

pub round_made : {B : Type 0} (m : Service B) (L : List AnyValue) (A : Answers) (r : ℕ) (T : Tables) (es : List Entry)
    (J : List Seg) → batch_at L r ≡ Some es → job_of A (wants m.programs T es) ≡ Some J
    → round_at m.programs L A r T ≡ Some (record { tables = T; wants = wants m.programs T es; job = J })
round_made m L A r T es J e f = rw (e, f) refl

pub round_at-more : {B : Type 0} (m : Service B) (L K : List AnyValue) (A C : Answers) (r : ℕ) (T : Tables) (R : Round)
    → MoreLog L K → MoreAnswers A C → round_at m.programs L A r T ≡ Some R → round_at m.programs K C r T ≡ Some R
round_at-more m L K A C r T R g a e =
    let p = then_parts (batch_at L r)
    (λ es. and_then (job_of A (wants m.programs T es))
    (λ J. Some (record { tables = T; wants = wants m.programs T es; job = J }))) R e in
    let q = then_parts (job_of A (wants m.programs T p.0)) (λ J. Some (record { tables = T; wants = wants m.programs T p.0; job = J })) R p.2 in
    then_some (batch_at K r)
    (λ es. and_then (job_of C (wants m.programs T es))
    (λ J. Some (record { tables = T; wants = wants m.programs T es; job = J }))) p.0 R (batch-more L K r p.0 g p.1)
    (then_some (job_of C (wants m.programs T p.0))
    (λ J. Some (record { tables = T; wants = wants m.programs T p.0; job = J })) q.0 R
    (job-more A C (wants m.programs T p.0) q.0 a q.1) q.2)

pub after-more : {B : Type 0} (m : Service B) (D : ℕ) (L K : List AnyValue) (A C : Answers) (r : ℕ) (T : Tables)
    → MoreLog L K → MoreAnswers A C → after m.programs D L A r ≡ Some T → after m.programs D K C r ≡ Some T
after-more m D L K A C zero T g a e = e
after-more {B} m D L K A C (suc r) T g a e =
    let p = then_parts (after m.programs D L A r) (λ T. and_then (round_at m.programs L A r T) (λ R. and_then (verdict_at L r) (done m.programs R))) T e in
    let q = then_parts (round_at m.programs L A r p.0) (λ R. and_then (verdict_at L r) (done m.programs R)) T p.2 in
    let v = then_parts (verdict_at L r) (done m.programs q.0) T q.2 in
    then_some (after m.programs D K C r)
    (λ T. and_then (round_at m.programs K C r T) (λ R. and_then (verdict_at K r) (done m.programs R))) p.0 T
    (after-more m D L K A C r p.0 g a p.1)
    (then_some (round_at m.programs K C r p.0) (λ R. and_then (verdict_at K r) (done m.programs R)) q.0 T (round_at-more m L K A C r p.0 q.0 g a q.1)
    (then_some (verdict_at K r) (done m.programs q.0) v.0 T (verdict-more L K r v.0 g v.1) v.2))

pub round-more : {B : Type 0} (m : Service B) (D : ℕ) (L K : List AnyValue) (A C : Answers) (r : ℕ) (R : Round)
    → MoreLog L K → MoreAnswers A C → round m.programs D L A r ≡ Some R → round m.programs D K C r ≡ Some R
round-more m D L K A C r R g a e =
    let p = then_parts (after m.programs D L A r) (round_at m.programs L A r) R e in
    then_some (after m.programs D K C r) (round_at m.programs K C r) p.0 R (after-more m D L K A C r p.0 g a p.1) (round_at-more m L K A C r p.0 R g a p.2)

-- the tables after a round
pub after-step : {B : Type 0} (m : Service B) (D : ℕ) (L : List AnyValue) (A : Answers) (r : ℕ) (R : Round)
    (v : Verdict) (T : Tables) → round m.programs D L A r ≡ Some R → verdict_at L r ≡ Some v
    → done m.programs R v ≡ Some T → after m.programs D L A (suc r) ≡ Some T
after-step m D L A r R v T e f g =
    let p = then_parts (after m.programs D L A r) (round_at m.programs L A r) R e in
    then_some (after m.programs D L A r) (λ T. and_then (round_at m.programs L A r T) (λ R. and_then (verdict_at L r) (done m.programs R))) p.0 T p.1
    (then_some (round_at m.programs L A r p.0) (λ R. and_then (verdict_at L r) (done m.programs R)) R T p.2
    (then_some (verdict_at L r) (done m.programs R) v T f g))
