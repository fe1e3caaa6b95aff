-- A verdict that a middle node offers is backed, and a run is a run of its round.
use Rattle.std.proofs.Common.{◌≡◌, ℕ, ◌+◌, ◌*◌, ◌<◌, ◌≤◌, Bool, true, false, cond, List, [], ◌∷◌, refl, sym, ap, ◌∙◌}
use Rattle.std.proofs.Common.{subst, inl, inr, Option, Some, None, zero, suc, arith}
use Rattle.std.specs.Prelude.{slice_get, ◌⊎◌, ◌==◌, ◌&&◌, ◌||◌, nat_lt}
use Rattle.std.proofs.lemmas.Bool.{and_parts, eqb-true, ltb-true, ltb-false, cases_lt}
use Rattle.std.proofs.lemmas.Option.{cond_some}
use Rattle.aeg_base.specs.declared.names.Tier.{Tier}
use Rattle.exec_model.specs.declared.job.Seg.{Seg}
use Rattle.log_model.proofs.Basics.{count-more}
use Rattle.log_model.specs.Log.{count_below}
use Rattle.log_values.specs.declared.mid_value.Verdict.{Verdict}
use Rattle.log_values.specs.declared.mid_value.Verdict.TheVariants.{Commit, Serial}
use Rattle.round_model.specs.After.{after, batch_at, round, round_at}
use Rattle.log_model.specs.Log.{has, is}
use Rattle.round_model.proofs.HeldLaws.{IsHeldByMany, usable_held}
use Rattle.round_model.specs.Held.{HeldState, answers_of, has_told, held_code, usable}
use Rattle.round_model.specs.Numbered.{find}
use Rattle.round_model.specs.declared.answer.Answer.{Answer}
use Rattle.round_model.specs.Lists.{and_then, is_some, lowest}
use Rattle.round_model.specs.Tables.{Codes as Answers, Number, Want, answered, as_seg, job_of, wants}
use Rattle.round_model.specs.declared.claim.Claim.{Claim}
use Rattle.round_model.specs.Verdicts.{Claims, Vote, claim_of, has_token, how_many, is_backed, same_token, verdict, verdict_by}
use Rattle.run_model.specs.World.{Config}
use Rattle.server_model.specs.Server.{same_tier}
use Rattle.tier_laws.proofs.Lists.ItemsByIndex.{tier_eq, some_of}
use Rattle.tier_laws.proofs.Rounds.DecidedRounds.{held_right}
use Rattle.tier_laws.proofs.Events.GrowingPast.{DidRun, HeldOk, Known, ManyHold, MidOther, Past, RunOk, VerdictOk, holds, vote_by}
use Rattle.tier_laws.proofs.Rounds.StableRounds.{MoreAnswers, MoreLog, batch-more, job-more, round_made, then_parts, then_some}
use Rattle.tier_model.specs.Mid.{Mid}
use Rattle.exec_model.specs.Jobs.{run_job}
use Rattle.exec_model.specs.Outcomes as changes
use Rattle.tier_laws.specs.Said.{Laws}
use Rattle.tier_model.specs.MidRows.{Running, running, to_run}

-- COUNTS

pub count-gap : (n : ℕ) (f g : ℕ → Bool) → count_below n f < count_below n g → (z : ℕ) × (z < n) × (g z ≡ true) × (f z ≡ false)
count-gap zero f g l = absurd (omega arith)
count-gap (suc n) f g l = go (f n) (g n) refl refl l (count-gap n f g)
  where
    more : (z : ℕ) × (z < n) × (g z ≡ true) × (f z ≡ false) → (z : ℕ) × (z < suc n) × (g z ≡ true) × (f z ≡ false)
    more r = (r.0, omega (arith, r.1), r.2, r.3)

    go : (a b : Bool) → f n ≡ a → g n ≡ b → cond a 1 0 + count_below n f < cond b 1 0 + count_below n g
        → (count_below n f < count_below n g → (z : ℕ) × (z < n) × (g z ≡ true) × (f z ≡ false)) → (z : ℕ) × (z < suc n)
        × (g z ≡ true) × (f z ≡ false)
    go false true p q h r = (n, omega arith, q, p)
    go true true p q h r = more (r (omega arith))
    go true false p q h r = more (r (omega arith))
    go false false p q h r = more (r (omega arith))

pub count-some : (n : ℕ) (g : ℕ → Bool) → 0 < count_below n g → (z : ℕ) × (z < n) × (g z ≡ true)
count-some zero g l = absurd (omega arith)
count-some (suc n) g l = go (g n) refl l (count-some n g)
  where
    go : (b : Bool) → g n ≡ b → 0 < cond b 1 0 + count_below n g
        → (0 < count_below n g → (z : ℕ) × (z < n) × (g z ≡ true)) → (z : ℕ) × (z < suc n) × (g z ≡ true)
    go true e h r = (n, omega arith, e)
    go false e h r = let q = r (omega arith) in (q.0, omega (arith, q.1), q.2)

pub lowest_some : (n : ℕ) (test : ℕ → Bool) (y : ℕ) → lowest n test ≡ Some y → test y ≡ true
lowest_some zero test y e = absurd (cc)
lowest_some (suc n) test y e = go (lowest n test) refl (test n) refl e (lowest_some n test)
  where
    go : (o : Option ℕ) → lowest n test ≡ o → (b : Bool) → test n ≡ b
        → elim o [ None ↦ cond b (Some n) None | Some i ↦ Some i ] ≡ Some y
        → ((y : ℕ) → lowest n test ≡ Some y → test y ≡ true) → test y ≡ true
    go None f true t e r = let s : n ≡ y = cc in subst (λ z. test z ≡ true) s t
    go None f false t e r = absurd (cc)
    go (Some i) f b t e r = r y (f ∙ e)

pub lowest_none : (n : ℕ) (test : ℕ → Bool) (y : ℕ) → y < n → lowest n test ≡ None → test y ≡ false
lowest_none zero test y l e = absurd (omega arith)
lowest_none (suc n) test y l e = go (lowest n test) refl (test n) refl e (cases_lt y n) (lowest_none n test y)
  where
    go : (o : Option ℕ) → lowest n test ≡ o → (b : Bool) → test n ≡ b
        → ◌≡◌ {A = Option ℕ} (elim o [ None ↦ cond b (Some n) None | Some i ↦ Some i ]) None → (y < n) ⊎ (n ≤ y)
        → (y < n → lowest n test ≡ None → test y ≡ false) → test y ≡ false
    go (Some i) f b t e h r = absurd (cc)
    go None f true t e h r = absurd (cc)
    go None f false t e (inl h) r = r h f
    go None f false t e (inr h) r = let s : n ≡ y = omega arith in subst (λ z. test z ≡ false) s t

-- TALLIES

has_some : (o : List ℕ) (q : Option Claim) → has_token o q ≡ true → (v : Claim) × (q ≡ Some v) × (same_token v.token o ≡ true)
has_some o None e = absurd (cc)
has_some o (Some v) e = (v, refl, e)

lacks : (o : List ℕ) (q : Option Claim) (v : Claim) → q ≡ Some v → has_token o q ≡ false → same_token v.token o ≡ false
lacks o q v e f = sym (ap (has_token o) e) ∙ f

backed_some : (u : ℕ) (vs : Claims) (q : Option Claim) → is_backed u vs q ≡ true → (v : Claim) × (q ≡ Some v)
    × (u < count_below (2 * u + 1) (λ y. has_token v.token (claim_of vs y)))
backed_some u vs None e = absurd (cc)
backed_some u vs (Some v) e = (v, refl, ltb-true _ _ e)

not_backed : (u : ℕ) (vs : Claims) (q : Option Claim) (v : Claim) → q ≡ Some v → is_backed u vs q ≡ false
    → count_below (2 * u + 1) (λ y. has_token v.token (claim_of vs y)) ≤ u
not_backed u vs q v e f =
    let g : nat_lt u (count_below (2 * u + 1) (λ y. has_token v.token (claim_of vs y))) ≡ false = sym
    (ap (is_backed u vs) e) ∙ f in omega (arith, ltb-false _ _ g)

-- each claim of the round is a run
pub record Tallied {B : Type 0} (P : Past B) (r : ℕ) (vs : Claims) : Type 0 where
  pub at : (y : ℕ) (q : Claim) → claim_of vs y ≡ Some q → DidRun P (vote_by r y q)

pub verdict_ok : {B : Type 0} (c : Config B) (P : Past B) (vs : Claims) (r : ℕ) (v : Verdict) → Known c P
    → Tallied P r vs → verdict c.u vs ≡ Some v → VerdictOk c P r v
verdict_ok {B} c P vs r v k t e = go (lowest (2 * c.u + 1) (λ y. is_backed c.u vs (claim_of vs y))) refl e
  where
    commit : (y : ℕ) → is_backed c.u vs (claim_of vs y) ≡ true → verdict_by (nat_lt c.u (how_many c.u vs)) (claim_of vs y) ≡ Some v → VerdictOk c P r v
    commit y b f =
        let a = backed_some c.u vs (claim_of vs y) b in
        let did : DidRun P (vote_by r y a.0) = t.at y a.0 a.1 in
        let ok : RunOk c P (vote_by r y a.0) = k.runs did.0 (vote_by r y a.0) did.1 in
        let is : Commit a.0.token a.0.order ≡ v = let g = sym (ap (verdict_by (nat_lt c.u (how_many c.u vs))) a.1) ∙ f in cc in
        subst (VerdictOk c P r) is (record {
          made = ok.made;
          is_round = ok.is_round;
          held = ok.held;
          by = (
            ok.is_ordered,
            ok.is_token,
            (
              count_below (2 * c.u + 1) (λ y. has_token a.0.token (claim_of vs y)),
              a.2,
              (
                λ y. has_token a.0.token (claim_of vs y),
                refl,
                λ y h. let z = has_some a.0.token (claim_of vs y) h in (vote_by r y z.0, t.at y z.0 z.1, refl, refl, z.2),
              ),
            ),
            (vote_by r y a.0, did, refl, refl, refl),
          );
        })

    serial : lowest (2 * c.u + 1) (λ y. is_backed c.u vs (claim_of vs y)) ≡ None → nat_lt c.u (how_many c.u vs) ≡ true → VerdictOk c P r Serial
    serial none many =
        let l : c.u < count_below (2 * c.u + 1) (λ y. is_some (claim_of vs y)) = ltb-true _ _ many in
        let y = count-some (2 * c.u + 1) (λ y. is_some (claim_of vs y)) (omega arith) in
        let a = some_of (claim_of vs y.0) y.2 in
        let few = not_backed c.u vs (claim_of vs y.0) a.0 a.1 (lowest_none (2 * c.u + 1) (λ y. is_backed c.u vs (claim_of vs y)) y.0 y.1 none) in
        let z = count-gap (2 * c.u + 1) (λ y. has_token a.0.token (claim_of vs y)) (λ y. is_some (claim_of vs y)) (omega (arith, few)) in
        let b = some_of (claim_of vs z.0) z.2 in
        let p : DidRun P (vote_by r z.0 b.0) = t.at z.0 b.0 b.1 in
        let q : DidRun P (vote_by r y.0 a.0) = t.at y.0 a.0 a.1 in
        let ok : RunOk c P (vote_by r y.0 a.0) = k.runs q.0 (vote_by r y.0 a.0) q.1 in
        record {
          made = ok.made;
          is_round = ok.is_round;
          held = ok.held;
          by = (
            vote_by r z.0 b.0,
            vote_by r y.0 a.0,
            p,
            q,
            refl,
            refl,
            lacks a.0.token (claim_of vs z.0) b.0 b.1 z.3,
            λ self at.
                let one : Some b.0 ≡ Some a.0 = sym b.1 ∙ ap (claim_of vs) at ∙ a.1 in
                let same : b.0 ≡ a.0 = cc in
                let no_more : same_token a.0.token a.0.token ≡ false = subst
                (λ (g : Claim). same_token g.token a.0.token ≡ false) same (lacks a.0.token (claim_of vs z.0) b.0 b.1 z.3) in
                cc,
          );
        }

    go : (o : Option ℕ) → lowest (2 * c.u + 1) (λ y. is_backed c.u vs (claim_of vs y)) ≡ o
        → verdict_by (nat_lt c.u (how_many c.u vs)) (and_then o (claim_of vs)) ≡ Some v → VerdictOk c P r v
    go (Some y) f g = commit y (lowest_some (2 * c.u + 1) (λ y. is_backed c.u vs (claim_of vs y)) y f) g
    go None f g = let p = cond_some (nat_lt c.u (how_many c.u vs)) Serial v g in subst (VerdictOk c P r) p.1 (serial f p.0)

-- USABLE ANSWERS

-- who is known to hold an answer wrote it down
holder : {B : Type 0} (c : Config B) (P : Past B) (x : ℕ) (H : HeldState) (t : Tier) (n : ℕ) (a : Answer) (y : ℕ)
    → HeldOk c P x H → find (answers_of H t) n ≡ Some a
    → (is H.me y || has a.noted y) ≡ true → holds P t n y ≡ true
holder {B} c P x H t n a y o e f = go (y == H.me) refl f
  where
    go : (b : Bool) → (y == H.me) ≡ b → (b || has a.noted y) ≡ true → holds P t n y ≡ true
    go true g h = subst (λ z. holds P t n z ≡ true) (sym (eqb-true y H.me g ∙ o.me)) (ap is_some (sym (o.codes t n))
        ∙ ap (λ z. is_some (and_then z (λ (q : Answer). Some q.code))) e)
    go false g h = o.noted y t n (ap (λ z. has_told z y) e ∙ h)

pub usable_ok : {B : Type 0} (c : Config B) (P : Past B) (x : ℕ) (σ : Mid) (t : Tier) (n code : ℕ) → Known c P
    → MidOther c P x σ → usable σ.held t n ≡ Some code → (P.server.served t n ≡ Some code) × ManyHold c P t n
usable_ok {B} c P x σ t n code k o e =
    let m : IsHeldByMany σ.held t n code = usable_held σ.held t n code e in
    let held : held_code σ.held t n ≡ Some code = ap (λ z. and_then z (λ (q : Answer). Some q.code)) m.found ∙ ap Some m.has_code in
    let many : c.u < count_below (2 * c.u + 1) (λ y. is σ.held.me y || has m.answer.noted y) = subst
    (λ z. z < count_below (2 * z + 1) (λ y. is σ.held.me y || has m.answer.noted y)) o.held.faults m.many in (
      (held_right c P x σ k o).at t n code held,
      omega (
        arith,
        many,
        count-more (2 * c.u + 1) (λ y. is σ.held.me y || has m.answer.noted y) (holds P t n)
            (λ y h. holder c P x σ.held t n m.answer y o.held m.found h),
      ),
    )

answered_some : (A : Answers) (w : Want) (q : Option Number) (j : Seg) (k : Number) → answered A w q ≡ Some j
    → q ≡ Some k → (code : ℕ) × (A k.tier k.num ≡ Some code)
answered_some A w None j k e f = absurd (cc)
answered_some A w (Some l) j k e f =
    let p = then_parts (A l.tier l.num) (λ code. Some (as_seg w (Some code))) j e in
    let s : l ≡ k = cc in (p.0, subst (λ (z : Number). A z.tier z.num ≡ Some p.0) s p.1)

job_answers : (A : Answers) (ws : List Want) (J : List Seg) (i : ℕ) (w : Want) (k : Number) → job_of A ws ≡ Some J
    → slice_get ws i ≡ Some w → w.call ≡ Some k → (code : ℕ) × (A k.tier k.num ≡ Some code)
job_answers A [] J i w k e f g = absurd (cc)
job_answers A (v ∷ ws) J i w k e f g = go i f (λ i f. job_answers A ws q.0 i w k q.1 f g)
  where
    p : (j : Seg) × (answered A v v.call ≡ Some j) × (and_then (job_of A ws) (λ js. Some (j ∷ js)) ≡ Some J)
    p = then_parts (answered A v v.call) (λ j. and_then (job_of A ws) (λ js. Some (j ∷ js))) J e

    q : (js : List Seg) × (job_of A ws ≡ Some js) × (Some (p.0 ∷ js) ≡ Some J)
    q = then_parts (job_of A ws) (λ js. Some (p.0 ∷ js)) J p.2

    go : (i : ℕ) → slice_get (v ∷ ws) i ≡ Some w
        → ((i : ℕ) → slice_get ws i ≡ Some w → (code : ℕ) × (A k.tier k.num ≡ Some code)) → (code : ℕ)
        × (A k.tier k.num ≡ Some code)
    go zero f r = let s : v ≡ w = cc in answered_some A v v.call p.0 k p.1 (ap (λ (z : Want). z.call) s ∙ g)
    go (suc i) f r = r i f

pub run_right : {B : Type 0} (c : Config B) (P : Past B) (x : ℕ) (σ : Mid) (schedule : List ℕ) (v : Running)
    → x < 2 * c.u + 1 → Laws c.service.programs → Known c P → MidOther c P x σ → MoreLog σ.log.learned P.log
    → to_run c.u c.service.programs x σ schedule ≡ Some v → RunOk c P v.vote
run_right {B} c P x σ schedule v inside laws k o pre e = go (is_some σ.spec) e
  where
    made : and_then (batch_at σ.log.learned σ.applied)
        (λ es. and_then (job_of (usable σ.held) (wants c.service.programs σ.tables es))
        (λ J. Some (running c.service.programs x σ (run_job c.service.programs.begins J σ.tables.store schedule))))
        ≡ Some v → RunOk c P v.vote
    made f =
        let p = then_parts (batch_at σ.log.learned σ.applied)
        (λ es. and_then (job_of (usable σ.held) (wants c.service.programs σ.tables es))
        (λ J. Some (running c.service.programs x σ (run_job c.service.programs.begins J σ.tables.store schedule)))) v f in
        let q = then_parts (job_of (usable σ.held) (wants c.service.programs σ.tables p.0))
        (λ J. Some (running c.service.programs x σ (run_job c.service.programs.begins J σ.tables.store schedule))) v p.2 in
        let is : running c.service.programs x σ (run_job c.service.programs.begins q.0 σ.tables.store schedule) ≡ v = let h = q.2 in cc in
        let more : MoreAnswers (usable σ.held) P.server.served = record { at = λ t n code u. (usable_ok c P x σ t n code k o u).0 } in
        subst (λ (z : Running). RunOk c P z.vote) is (record {
          inside = inside;
          made = record { tables = σ.tables; wants = wants c.service.programs σ.tables p.0; job = q.0 };
          is_round = then_some (after c.service.programs c.depth P.log P.server.served σ.applied)
              (round_at c.service.programs P.log P.server.served σ.applied) σ.tables _ o.is_after
              (round_made c.service P.log P.server.served σ.applied σ.tables p.0 q.0
              (batch-more σ.log.learned P.log σ.applied p.0 pre p.1)
              (job-more (usable σ.held) P.server.served (wants c.service.programs σ.tables p.0) q.0 more q.1));
          held = record {
            at = λ i w l f g. let a = job_answers (usable σ.held) (wants c.service.programs σ.tables p.0)
                q.0 i w l q.1 f g in (usable_ok c P x σ l.tier l.num a.0 k o a.1).1;
          };
          is_ordered = laws.orders q.0 σ.tables.store schedule;
          is_token = λ i. c.service.programs.spell
              (changes.outcome σ.tables.store (laws.store q.0 σ.tables.store schedule i) (laws.ends q.0 σ.tables.store schedule i));
        })

    go : (b : Bool) → cond b None
        (and_then (batch_at σ.log.learned σ.applied)
        (λ es. and_then (job_of (usable σ.held) (wants c.service.programs σ.tables es))
        (λ J. Some (running c.service.programs x σ (run_job c.service.programs.begins J σ.tables.store schedule)))))
        ≡ Some v → RunOk c P v.vote
    go true f = absurd (cc)
    go false f = made f
