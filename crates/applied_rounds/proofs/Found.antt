-- What a verdict's job and its answers tell, by what code found.
use Rattle.std.proofs.Common.{◌≡◌, ℕ, true, false, List, length, refl, sym, ap, map, ◌∙◌, subst, Option, Some, None, Result, Ok, Err}
use Rattle.std.specs.Prelude.{IfOk, IfSome, IsTrue, option_map}
use Rattle.std.specs.List.{All}
use Rattle.std.proofs.lemmas.Option.{same_Some}
use Rattle.exec_model.specs.declared.job.Job.{Job}
use Rattle.exec_core.specs.Jobs.{BeginsWell}
use Rattle.log_model.proofs.Basics.{Every}
use Rattle.log_values.specs.declared.entry.Entry.{Entry}
use Rattle.log_values.specs.declared.mid_value.Verdict.{Verdict}
use Rattle.log_values.specs.declared.mid_value.Verdict.TheVariants.{Serial}
use Rattle.log_values.specs.Values.{FitsEntry}
use Rattle.round_model.specs.Lists.{is_some}
use Rattle.round_model.specs.Service.{Programs, Service, Finish}
use Rattle.round_model.specs.Settling.{finish_of}
use Rattle.round_model.specs.Tables.{Codes, Tables, Want, fresh_entries, job_of, wants}
use Rattle.pipeline.specs.States.{next_wants}
use Rattle.pipeline.specs.Jobs.{IsNextJob, asks_for, in_round, is_serial, next_job}
use Rattle.pipeline.specs.Answers.{job_in, job_settled}
use Rattle.pipeline.specs.declared.rounds.JobState.{JobState}
use Rattle.pipeline.specs.declared.rounds.Settled.{Settled}
use Rattle.pipeline.specs.declared.rounds.Settled.TheVariants as settlings
use Rattle.pipeline.proofs.Wants.{same_length}
use Rattle.rollback.specs.Settled.{IsReadable, told}
use Rattle.tier_laws.proofs.Rounds.StableRounds.{then_parts}
use Rattle.tier_laws.proofs.Services.Serial.{Agrees}
use Rattle.row_laws.specs.Mids.{AreTablesIn, rounds_in}
use Rattle.row_laws.proofs.Wanted.{wants_in}
use Rattle.applied_rounds.specs.States.{AppliedState, ComesTo, after_round, after_round_if}
use Rattle.applied_rounds.specs.Told.{tolds}
use Rattle.applied_rounds.specs.declared.told.Told.{Told}
use Rattle.applied_rounds.proofs.Begun.{all_begin}
use Rattle.applied_rounds.proofs.Settles.{comes_to, readable}

-- a service with these programs
abbrev service_by : Programs → Service (Unit {0})
service_by m = record { programs = m; backend = λ t. record { opening = tt; serve = λ state call. record { state = tt; code = 0 } } }

-- the segments of a round's job begin well
pub next_begins : (m : Programs) (depth a : ℕ) (T : Tables) (batch fresh : List Entry) (job : Job) → Agrees m → AreTablesIn m depth a T → Every FitsEntry batch
    → fresh ≡ fresh_entries m T batch → IsNextJob (rounds_in a T) fresh job → All (BeginsWell m.begins) job.segs
next_begins m depth a T batch fresh job folds k fit e n =
    all_begin m (wants m T batch) job.segs folds (wants_in (service_by m) depth a T batch k fit)
    (n.segs ∙ ap (λ z. map asks_for (next_wants (rounds_in a T) z)) e)

-- the fresh entries of a batch, and what was made of its round and a verdict: its job
pub record Found (m : Programs) (A : Codes) (a : ℕ) (T : Tables) (batch fresh : List Entry) (v : Verdict) (x : Settled) (job : Job) : Type 0 where
  pub fresh_are : fresh ≡ fresh_entries m T batch
  pub ready : is_some (job_settled x) ≡ is_some (finish_of m A (next_wants (rounds_in a T) fresh) T v)
  pub next : IfSome (job_settled x) (IsNextJob (rounds_in a T) fresh)
  pub serial : IsTrue (is_serial v) → job_settled x ≡ next_job (rounds_in a T) A fresh
  pub is : x ≡ settlings.Ready job

some_finish : (x : Settled) (job : Job) (f : Option Finish) → x ≡ settlings.Ready job → is_some (job_settled x) ≡ is_some f → (o : Finish) × (f ≡ Some o)
some_finish x job None e h = let no : true ≡ false = sym (ap (λ z. is_some (job_settled z)) e) ∙ h in absurd (cc)
some_finish x job (Some o) e h = (o, refl)

module _ {m : Programs} {A : Codes} {a : ℕ} {T : Tables} {batch fresh : List Entry} {v : Verdict} {x : Settled} {job : Job}
    (k : Found m A a T batch fresh v x job) where
  wants_found : next_wants (rounds_in a T) fresh ≡ wants m T batch
  wants_found = ap (next_wants (rounds_in a T)) k.fresh_are

  pub next_found : IsNextJob (rounds_in a T) fresh job
  next_found = subst (λ z. IfSome (job_settled z) (IsNextJob (rounds_in a T) fresh)) k.is k.next

  -- the round comes to something
  pub finish_found : (o : Finish) × (finish_of m A (wants m T batch) T v ≡ Some o)
  finish_found = some_finish x job (finish_of m A (wants m T batch) T v) k.is (k.ready ∙ ap (λ z. is_some (finish_of m A z T v)) wants_found)

  pub reads_found : m.read ≡ told → IsReadable v (length job.segs)
  reads_found r =
      let long : length job.segs ≡ length (wants m T batch) =
      same_length job.segs (next_wants (rounds_in a T) fresh) next_found.segs ∙ ap (λ (z : List Want). length z) wants_found in
      readable m A (wants m T batch) T v finish_found.0 (length job.segs) r (sym long) finish_found.1

  -- a Serial has its job's answers
  job_found : v ≡ Serial → job_of A (wants m T batch) ≡ Some job.segs
  job_found e =
      let is : Some job ≡ next_job (rounds_in a T) A fresh = sym (ap job_settled k.is) ∙ k.serial (subst (λ z. IsTrue (is_serial z)) (sym e) refl) in
      let p = then_parts (job_of A (next_wants (rounds_in a T) fresh)) (in_round a) job (sym is) in
      sym (ap (job_of A) wants_found) ∙ p.1 ∙ ap (λ (z : Job). Some z.segs) (same_Some (record { round = a; segs = p.0 }) job p.2)

  pub comes_found : Agrees m → m.read ≡ told → ComesTo m.begins job.segs v T.store finish_found.0
  comes_found folds r = comes_to m A (wants m T batch) T v finish_found.0 job.segs folds r job_found finish_found.1

  -- the state once it is settled, and what is told
  pub state_found : (old new : AppliedState) → new ≡ after_round old (next_wants (rounds_in a T) fresh) finish_found.0
      → new ≡ after_round_if old (wants m T batch) (finish_of m A (wants m T batch) T v)
  state_found old new h = h ∙ ap (λ z. after_round old z finish_found.0) wants_found ∙ sym (ap (after_round_if old (wants m T batch)) finish_found.1)

  pub told_found : (said : List Told) → said ≡ tolds T.next (next_wants (rounds_in a T) fresh) finish_found.0.ends
      → Some said ≡ option_map (λ (o : Finish). tolds T.next (wants m T batch) o.ends) (finish_of m A (wants m T batch) T v)
  told_found said h =
      ap (λ z. Some z) (h ∙ ap (λ z. tolds T.next z finish_found.0.ends) wants_found)
      ∙ sym (ap (option_map (λ (o : Finish). tolds T.next (wants m T batch) o.ends)) finish_found.1)

-- so do those of a job that can run
pub jobs_begin : {E : Type 0} (m : Programs) (depth a : ℕ) (T : Tables) (batch fresh : List Entry) (r : Result JobState E) → Agrees m
    → AreTablesIn m depth a T → Every FitsEntry batch → fresh ≡ fresh_entries m T batch
    → IfOk r (λ x. IfSome (job_in x) (λ job. IsNextJob (rounds_in a T) fresh job)) → IfOk r (λ x. IfSome (job_in x) (λ job. All (BeginsWell m.begins) job.segs))
jobs_begin m depth a T batch fresh (Err e) folds k fit is h = tt
jobs_begin m depth a T batch fresh (Ok x) folds k fit is h = by (job_in x) h
  where
    by : (o : Option Job) → IfSome o (λ job. IsNextJob (rounds_in a T) fresh job) → IfSome o (λ job. All (BeginsWell m.begins) job.segs)
    by None n = tt
    by (Some job) n = next_begins m depth a T batch fresh job folds k fit is n
