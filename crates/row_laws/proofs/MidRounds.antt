-- A round that a middle node can apply, or run, leaves it in range.
use Rattle.std.proofs.Common.{◌≡◌, ℕ, suc, ◌+◌, ◌*◌, ◌<◌, ◌≤◌, Bool, true, false, cond, List, length, refl, sym, ap, ◌∙◌, subst, arith, Some, None}
use Rattle.std.specs.Prelude.{slice_get}
use Rattle.std.proofs.lemmas.Option.{same_Some, slice_get_within}
use Rattle.aeg_base.specs.Store.{Store}
use Rattle.aeg_base.specs.declared.names.Tier.TheVariants.{Mid as InMid}
use Rattle.svc_api.specs.declared.action.Ending.{Ending}
use Rattle.svc_api.specs.Orders.{is_order}
use Rattle.exec_model.specs.declared.job.Seg.{Seg}
use Rattle.exec_model.specs.Jobs.{Run, run_job}
use Rattle.exec_model.specs.Outcomes as changes
use Rattle.log_model.specs.Log.{open_at}
use Rattle.log_model.specs.Ranges.{IsLogIn}
use Rattle.log_model.proofs.Basics.{Every}
use Rattle.log_values.specs.declared.any_value.AnyValue.{AnyValue}
use Rattle.log_values.specs.declared.any_value.AnyValue.TheVariants.{Mid as OfMid, Back as OfBack}
use Rattle.log_values.specs.declared.entry.Entry.{Entry}
use Rattle.log_values.specs.declared.mid_value.MidValue.TheVariants.{Batch, Verdict as Decided}
use Rattle.log_values.specs.declared.mid_value.Verdict.{Verdict}
use Rattle.log_values.specs.Fields.{FitsBallot}
use Rattle.log_values.specs.Outcomes.{FitsOutcome, IsCommit}
use Rattle.log_values.specs.Values.{FitsEntry, FitsMid}
use Rattle.frames.specs.LogMessages.{IsCarried}
use Rattle.round_model.specs.Lists.{and_then, is_some, tabulate}
use Rattle.round_model.specs.Service.{Programs, Service, Finish, finish, serial, serial_end}
use Rattle.round_model.specs.Settling.{finish_of}
use Rattle.round_model.specs.Tables.{Want, wants, settled, job_of}
use Rattle.round_model.specs.After.{batch_in, verdict_in, batch_at, verdict_at}
use Rattle.round_model.specs.Held.{held_code, usable}
use Rattle.tier_laws.specs.Said.{IsStore, IsJob}
use Rattle.tier_laws.proofs.Rounds.StableRounds.{then_parts, batch_in-some, verdict_in-some}
use Rattle.tier_laws.proofs.Services.Serial.{run-order, run-store, run-ends}
use Rattle.tier_laws.proofs.Services.Tokens.{outcome_fits}
use Rattle.tier_laws.proofs.Lists.ItemsByIndex.{length-tabulate}
use Rattle.tier_model.specs.Mid.{Mid, Ready, ready, apply}
use Rattle.tier_model.specs.MidRows.{Running, running, to_run}
use Rattle.row_laws.specs.Services.{IsServiceIn}
use Rattle.row_laws.specs.Mids.{AreTablesIn, IsTallyIn, IsSpecIn, IsMidIn}
use Rattle.server_shim.proofs.Lists.{without_in}
use Rattle.row_laws.proofs.Orders.{order_long}
use Rattle.row_laws.proofs.Wanted.{IsWantIn, wants_in, wants_few, job_for, job_in}
use Rattle.row_laws.proofs.Finishes.{IsFinishIn, finish_in}
use Rattle.row_laws.proofs.Applied.{settled_in, left_in}

-- WHAT THE LOG HAS

-- a batch, and its round
pub record HasBatch (σ : Mid) (es : List Entry) : Type 0 where
  pub fit : Every FitsEntry es
  pub room : 2 * σ.applied < open_at σ.log

pub batch_of_log : (σ : Mid) (es : List Entry) → IsLogIn (IsCarried InMid) FitsBallot σ.log → batch_at σ.log.learned σ.applied ≡ Some es → HasBatch σ es
batch_of_log σ es k e =
    let v = batch_in-some (slice_get σ.log.learned (2 * σ.applied)) es e in
    record { fit = go v.0 (k.learned (2 * σ.applied) v.0 v.1) v.2; room = slice_get_within σ.log.learned (2 * σ.applied) v.0 v.1 }
  where
    go : (v : AnyValue) → IsCarried InMid (2 * σ.applied) v → batch_in (Some v) ≡ Some es → Every FitsEntry es
    go (OfMid (Batch bs)) c f = subst (Every FitsEntry) (same_Some bs es f) c.0.1
    go (OfMid (Decided w)) c f = absurd (cc)
    go (OfBack w) c f = absurd (cc)

pub record HasVerdict (σ : Mid) (v : Verdict) : Type 0 where
  pub fit : FitsMid (Decided v)
  pub room : 2 * σ.applied + 1 < open_at σ.log

pub verdict_of_log : (σ : Mid) (w : Verdict) → IsLogIn (IsCarried InMid) FitsBallot σ.log → verdict_at σ.log.learned σ.applied ≡ Some w → HasVerdict σ w
verdict_of_log σ w k e =
    let v = verdict_in-some (slice_get σ.log.learned (2 * σ.applied + 1)) w e in
    record { fit = go v.0 (k.learned (2 * σ.applied + 1) v.0 v.1) v.2; room = slice_get_within σ.log.learned (2 * σ.applied + 1) v.0 v.1 }
  where
    go : (v : AnyValue) → IsCarried InMid (2 * σ.applied + 1) v → verdict_in (Some v) ≡ Some w → FitsMid (Decided w)
    go (OfMid (Batch bs)) c f = absurd (cc)
    go (OfMid (Decided q)) c f = subst (λ z. FitsMid (Decided z)) (same_Some q w f) c.0
    go (OfBack q) c f = absurd (cc)

-- APPLYING

pub record IsReadyIn {B : Type 0} (s : Service B) (σ : Mid) (R : Ready) : Type 0 where
  pub batch : List Entry
  pub is : R.wants ≡ wants s.programs σ.tables batch
  pub ask : Every (IsWantIn s.programs) (wants s.programs σ.tables batch)
  pub few : length (wants s.programs σ.tables batch) ≤ 16
  pub fits : IsFinishIn s.programs (wants s.programs σ.tables batch) R.finish
  pub room : 2 * σ.applied + 1 < open_at σ.log

pub ready_in : {B : Type 0} (s : Service B) (u depth x : ℕ) (σ : Mid) (R : Ready) → IsServiceIn s.programs → IsMidIn s.programs u depth x σ
    → ready s.programs σ ≡ Some R → IsReadyIn s σ R
ready_in {B} s u depth x σ R service k e =
    let m : Programs = s.programs in
    let p = then_parts (batch_at σ.log.learned σ.applied) (λ es. and_then (verdict_at σ.log.learned σ.applied) (λ v.
    and_then (finish_of m (held_code σ.held) (wants m σ.tables es) σ.tables v) (λ o. Some (record { wants = wants m σ.tables es; finish = o })))) R e in
    let q = then_parts (verdict_at σ.log.learned σ.applied) (λ v. and_then (finish_of m (held_code σ.held) (wants m σ.tables p.0) σ.tables v)
    (λ o. Some (record { wants = wants m σ.tables p.0; finish = o }))) R p.2 in
    let r = then_parts (finish_of m (held_code σ.held) (wants m σ.tables p.0) σ.tables q.0)
    (λ o. Some (record { wants = wants m σ.tables p.0; finish = o })) R q.2 in
    made p.0 q.0 r.0 (batch_of_log σ p.0 k.log p.1) (verdict_of_log σ q.0 k.log q.1) r.1 r.2
  where
    made : (es : List Entry) (v : Verdict) (o : Finish) → HasBatch σ es → HasVerdict σ v
        → finish_of s.programs (held_code σ.held) (wants s.programs σ.tables es) σ.tables v ≡ Some o
        → Some (record { wants = wants s.programs σ.tables es; finish = o }) ≡ Some R → IsReadyIn s σ R
    made es v o b d f g =
        let ask = wants_in s depth σ.applied σ.tables es k.tables b.fit in
        let few = wants_few s depth σ.applied σ.tables es k.tables in
        let whole : Ready = record { wants = wants s.programs σ.tables es; finish = o } in
        subst (IsReadyIn s σ) (same_Some whole R g) (record {
          batch = es;
          is = refl;
          ask = ask;
          few = few;
          fits = finish_in s.programs (held_code σ.held) (wants s.programs σ.tables es) σ.tables v o service few ask k.tables.store d.fit f;
          room = d.room;
        })

pub apply_in : {B : Type 0} (s : Service B) (u depth x : ℕ) (σ : Mid) (R : Ready) → IsMidIn s.programs u depth x σ → IsReadyIn s σ R
    → IsMidIn s.programs u depth x (apply σ R)
apply_in s u depth x σ R k r =
    let within : open_at σ.log ≤ 4096 = k.log.within in
    let small : σ.applied < 2048 = omega (arith, r.room, within) in
    record {
      log = k.log;
      applied = omega (arith, r.room);
      tables = subst (λ (z : List Want). AreTablesIn s.programs depth (suc σ.applied) (settled σ.tables z R.finish)) (sym r.is)
          (settled_in s depth σ.applied σ.tables r.batch R.finish k.tables small r.ask r.fits);
      pending = left_in (settled σ.tables R.wants R.finish).last σ.pending k.pending;
      tally = without_in IsTallyIn σ.tally σ.applied k.tally;
      spec = tt;
      held = k.held;
    }

-- RUNNING

-- a run's token tells its outcome, and its order has a number for each end
pub run_fits : (m : Programs) (J : List Seg) (store : Store) (schedule : List ℕ) → IsServiceIn m → IsStore store → IsJob J
    → IsCommit (m.spell (changes.outcome store (run_job m.begins J store schedule).store (run_job m.begins J store schedule).ends))
    (run_job m.begins J store schedule).order
run_fits m J store schedule k st job = record {
  told = changes.outcome store ran.store ran.ends;
  fits = subst (λ (z : List Ending). FitsOutcome (changes.outcome store ran.store z)) (sym ends)
      (subst (λ (z : Store). FitsOutcome (changes.outcome store z (finish m J ran.order store).ends)) (sym left)
      (outcome_fits m k.folds k.proper J ran.order store job right st));
  spelled = k.spells (changes.outcome store ran.store ran.ends);
  count = long ∙ sym (ap (λ (z : List Ending). length z) ends ∙ length-tabulate (length J) (serial_end m J ran.order store));
  permutes = subst (λ n. is_order n ran.order ≡ true) (sym long) right;
}
  where
    ran : Run
    ran = run_job m.begins J store schedule

    right : is_order (length J) ran.order ≡ true
    right = run-order m.begins J store schedule

    left : ran.store ≡ serial m J ran.order store
    left = run-store m k.folds J store schedule

    ends : ran.ends ≡ tabulate (length J) (serial_end m J ran.order store)
    ends = run-ends m k.folds J store schedule

    long : length ran.order ≡ length J
    long = order_long (length J) ran.order right

-- the vote of a run is in range
pub run_in : {B : Type 0} (s : Service B) (u depth x : ℕ) (σ : Mid) (schedule : List ℕ) (r : Running) → IsServiceIn s.programs
    → IsMidIn s.programs u depth x σ → to_run u s.programs x σ schedule ≡ Some r → IsSpecIn x σ.applied r.vote
run_in {B} s u depth x σ schedule r service k e = go (is_some σ.spec) e
  where
    made : (es : List Entry) (J : List Seg) → HasBatch σ es → job_of (usable σ.held) (wants s.programs σ.tables es) ≡ Some J
        → Some (running s.programs x σ (run_job s.programs.begins J σ.tables.store schedule)) ≡ Some r → IsSpecIn x σ.applied r.vote
    made es J b j f =
        let ask = wants_in s depth σ.applied σ.tables es k.tables b.fit in
        let for = job_for (usable σ.held) (wants s.programs σ.tables es) J j in
        let job = job_in s.programs (wants s.programs σ.tables es) J for (wants_few s depth σ.applied σ.tables es k.tables) ask in
        let within : open_at σ.log ≤ 4096 = k.log.within in
        subst (λ (z : Running). IsSpecIn x σ.applied z.vote) (same_Some (running s.programs x σ (run_job s.programs.begins J σ.tables.store schedule)) r f)
        (record {
          own = refl;
          next = refl;
          round = omega (arith, b.room, within);
          fits = run_fits s.programs J σ.tables.store schedule service k.tables.store job;
        })

    go : (b : Bool) → cond b None (and_then (batch_at σ.log.learned σ.applied)
        (λ es. and_then (job_of (usable σ.held) (wants s.programs σ.tables es))
        (λ J. Some (running s.programs x σ (run_job s.programs.begins J σ.tables.store schedule))))) ≡ Some r
        → IsSpecIn x σ.applied r.vote
    go true f = absurd (cc)
    go false f =
        let p = then_parts (batch_at σ.log.learned σ.applied)
        (λ es. and_then (job_of (usable σ.held) (wants s.programs σ.tables es))
        (λ J. Some (running s.programs x σ (run_job s.programs.begins J σ.tables.store schedule)))) r f in
        let q = then_parts (job_of (usable σ.held) (wants s.programs σ.tables p.0))
        (λ J. Some (running s.programs x σ (run_job s.programs.begins J σ.tables.store schedule))) r p.2 in
        made p.0 q.0 (batch_of_log σ p.0 k.log p.1) q.1 q.2
