-- A round that a middle node can apply is the decided one.
use Rattle.std.proofs.Common.{◌≡◌, ℕ, ◌+◌, ◌*◌, ◌<◌, Bool, true, false, cond, List, [], ◌∷◌, length, refl, sym, ap, ◌∙◌}
use Rattle.std.proofs.Common.{subst, Option, Some, None, zero, suc, arith}
use Rattle.std.specs.Prelude.{slice_get, ◌==◌, nat_le, replicate, slice_index_or}
use Rattle.std.proofs.lemmas.Bool.{cond-true, cond_both}
use Rattle.std.proofs.lemmas.Option.{cond_some, slice_get_within}
use Rattle.aeg_base.specs.declared.names.Tier.{Tier}
use Rattle.aeg_base.specs.declared.names.Tier.TheVariants.{Mid as MidTier}
use Rattle.log_model.proofs.Basics.{Every, every-append}
use Rattle.log_model.specs.Log.{nobody}
use Rattle.log_values.specs.declared.any_value.AnyValue.{AnyValue}
use Rattle.log_values.specs.declared.any_value.AnyValue.TheVariants.{Mid as OfMid, Back as OfBack}
use Rattle.log_values.specs.declared.entry.Entry.{Entry}
use Rattle.log_values.specs.declared.mid_value.MidValue.TheVariants.{Batch, Verdict as Decided}
use Rattle.log_values.specs.declared.mid_value.Verdict.{Verdict}
use Rattle.log_values.specs.declared.mid_value.Verdict.TheVariants.{Commit, Serial}
use Rattle.round_model.specs.After.{Round, after, batch_at, round_at, verdict_at, verdict_in}
use Rattle.round_model.specs.Lists.{OfTiers, of_tier, and_then, below, each, half, odd}
use Rattle.round_model.specs.Service.{Finish, finish_by, Service, finish, is_order}
use Rattle.round_model.specs.Tables.{last_of, pending_of, drop_done, Tables, Want, bump, job_of, not_done, settled, wants}
use Rattle.round_model.specs.Held.{held_code}
use Rattle.round_model.specs.Numbered.{find, rises, without}
use Rattle.round_model.proofs.NumberedLaws.{find_without, rises_without}
use Rattle.round_model.specs.Settling.{finish_of, fits}
use Rattle.round_model.specs.declared.claim.Claim.{Claim}
use Rattle.round_model.specs.Verdicts.{Claims, claim_of, claims_in, claims_or_none}
use Rattle.run_model.specs.World.{Config}
use Rattle.svc_api.specs.declared.action.Ending.{Ending}
use Rattle.svc_api.specs.declared.action.Ending.TheVariants.{Call, Reply}
use Rattle.tier_laws.proofs.Rounds.ActsByIndex.{Act, acts}
use Rattle.tier_laws.proofs.Server.GrowingHistory.{Decision, TablesOk, finish_in, half-is, ordered}
use Rattle.tier_laws.proofs.Events.GrowingPast.{Known, MidOk, MidOther, SentOk, Past, VerdictBy, VerdictOk}
use Rattle.tier_laws.proofs.Rounds.AnyOrder.{ToldOne}
use Rattle.tier_laws.proofs.Rounds.StableRounds.{MoreAnswers, MoreLog, RoundParts, after-step, batch-more, job-more}
use Rattle.tier_laws.proofs.Rounds.StableRounds.{round_parts, then_parts, verdict-more, verdict_in-some}
use Rattle.aeg_base.proofs.ChangeLaws.{written-changes}
use Rattle.tier_laws.proofs.Rounds.RoundsInRange.{RoundIn, round_in}
use Rattle.tier_laws.proofs.MidNodes.CodesOfFacts.{code_at}
use Rattle.svc_api.specs.declared.outcome.Outcome.{Outcome}
use Rattle.exec_model.specs.Outcomes as changes
use Rattle.tier_model.specs.Mid.{Mid, Ready, call_to, apply, calls_to, ready, tells}

pub every-each : {A : Type 0} (P : A → Type 0) (n : ℕ) (skip : ℕ → Bool) (f : ℕ → A) → ((y : ℕ) → P (f y)) → Every P (each n skip f)
every-each P zero skip f k = tt
every-each P (suc n) skip f k = every-append P (each n skip f) _ (every-each P n skip f k)
    (cond_both (skip n) [] (f n ∷ []) (Every P) (λ e. tt) (λ e. (k n, tt)))

-- the held answers are those of the history
pub held_right : {B : Type 0} (c : Config B) (P : Past B) (x : ℕ) (σ : Mid) → Known c P → MidOther c P x σ → MoreAnswers (held_code σ.held) P.server.served
held_right {B} c P x σ k o = record { at = at }
  where
    at : (t : Tier) (n code : ℕ) → held_code σ.held t n ≡ Some code → P.server.served t n ≡ Some code
    at t n code e =
        let q = code_at (P.codes MidTier x) t n code (sym (o.held.codes t n) ∙ e) in
        let s : P.server.served q.1.tier q.1.num ≡ Some q.1.code = k.codes MidTier x q.0 q.1 q.2 in
        subst (λ z. P.server.served z n ≡ Some code) q.3 (subst (λ z. P.server.served q.1.tier z ≡ Some code) q.4 (s ∙ ap Some q.5))

pub tells_ok : {B : Type 0} (c : Config B) (P : Past B) (u x : ℕ) (next : OfTiers ℕ) (ws : List Want) (es : List Ending)
    → ((i : ℕ) (a : Act) → slice_get (acts next ws es) i ≡ Some a → ToldOne P.server a.want a.num a.ending)
    → Every (SentOk c P) (tells u x next ws es)
tells_ok c P u x next [] es k = tt
tells_ok c P u x next (w ∷ ws) [] k = tt
tells_ok c P u x next (w ∷ ws) (Reply text ∷ es) k = (
  (
    refl,
    k 0 (record { want = w; ending = Reply text; num = 0 }) refl,
  ),
  tells_ok c P u x next ws es (λ i a e. k (suc i) a e),
)
tells_ok c P u x next (w ∷ ws) (Call t stage text ∷ es) k = every-append (SentOk c P) (calls_to u x t (of_tier next t) text) (tells u x (bump next t) ws es)
    (every-each (SentOk c P) (2 * u + 1) nobody (call_to x t (of_tier next t) text)
    (λ y. k 0 (record { want = w; ending = Call t stage text; num = of_tier next t }) refl))
    (tells_ok c P u x (bump next t) ws es (λ i a e. k (suc i) a e))

-- nobody claims anything of a round without claims
pub no_claim : (n y : ℕ) (q : Claim) → slice_index_or (replicate n None) y None ≡ Some q → ⊥
no_claim zero y q e = cc
no_claim (suc n) zero q e = cc
no_claim (suc n) (suc y) q e = no_claim n y q e

-- once a round's claims are dropped, each claim that is left stood before
without_claim : (tally : List (ℕ × Claims)) (a r y : ℕ) (q : Claim) → rises 0 tally ≡ true
    → claim_of (claims_in (without tally a) r) y ≡ Some q → claim_of (claims_in tally r) y ≡ Some q
without_claim tally a r y q h e = go (a == r) (sym (ap (λ z. claim_of (claims_or_none z) y) (find_without 0 tally a r h)) ∙ e)
  where
    go : (b : Bool) → claim_of (claims_or_none (cond b None (find tally r))) y ≡ Some q → claim_of (claims_in tally r) y ≡ Some q
    go true f = absurd (no_claim 5 y q f)
    go false f = f

not_done_some : (last : ℕ) (o : Option Entry) (e : Entry) → not_done last o ≡ Some e → o ≡ Some e
not_done_some last None e f = absurd (cc)
not_done_some last (Some d) e f = go (nat_le d.seq last) f
  where
    go : (b : Bool) → cond b None (Some d) ≡ Some e → Some d ≡ Some e
    go true g = absurd (cc)
    go false g = g

drop_at : (last : List ℕ) (pending : List (Option Entry)) (y : ℕ) → pending_of (drop_done last pending) y ≡ not_done (last_of last y) (pending_of pending y)
drop_at [] [] y = refl
drop_at (n ∷ last) [] y = refl
drop_at [] (o ∷ pending) zero = refl
drop_at [] (o ∷ pending) (suc y) = drop_at [] pending y
drop_at (n ∷ last) (o ∷ pending) zero = refl
drop_at (n ∷ last) (o ∷ pending) (suc y) = drop_at last pending y

below_half : (a n : ℕ) → 2 * a + 1 < n → a < half n
below_half a n l = go (odd n) (half-is n)
  where
    go : (b : Bool) → n ≡ cond b (2 * half n + 1) (2 * half n) → a < half n
    go true e = omega arith
    go false e = omega arith

pub half-odd : (a : ℕ) → half (2 * a + 1) ≡ a
half-odd a = go (odd (2 * a + 1)) (half-is (2 * a + 1))
  where
    go : (b : Bool) → 2 * a + 1 ≡ cond b (2 * half (2 * a + 1) + 1) (2 * half (2 * a + 1)) → half (2 * a + 1) ≡ a
    go true e = omega arith
    go false e = absurd (omega arith)

pub record Prefix {V : Type 0} (xs ys : List V) : Type 0 where
  pub more : MoreLog xs ys

-- the ready round is the decided one
record IsDecided {B : Type 0} (c : Config B) (P : Past B) (σ : Mid) (R : Ready) : Type 0 where
  decision : Decision c.service c.depth P.log P.server σ.applied
  tables : decision.made.tables ≡ σ.tables
  wants : decision.made.wants ≡ R.wants
  finish_is : R.finish ≡ finish_in c.service decision.made decision.verdict

finish_right : {B : Type 0} (c : Config B) (P : Past B) (x : ℕ) (σ : Mid) (v : Verdict) (R : Round) (o : Finish)
    → Known c P → MidOther c P x σ → RoundIn R → R.tables ≡ σ.tables → job_of P.server.served R.wants ≡ Some R.job
    → VerdictBy c P σ.applied R v
    → finish_of c.service.programs (held_code σ.held) R.wants σ.tables v ≡ Some o → o ≡ finish_in c.service R v
finish_right {B} c P x σ (Commit t order) R o k q inside st j by e = sym taken.1
    ∙ ap (λ (z : Tables). finish_by z.store parts.0) (sym st) ∙ ap (finish_by R.tables.store) same
    ∙ (λ i. record { store = written-changes R.tables.store made.store i; ends = made.ends })
  where
    made : Finish
    made = finish c.service.programs R.job order R.tables.store

    parts : (w : Outcome) × (c.service.programs.read t ≡ Some w)
        × (cond (fits c.service.programs R.wants w.ends) (Some (finish_by σ.tables.store w)) None ≡ Some o)
    parts = then_parts (c.service.programs.read t) (λ o. cond (fits c.service.programs R.wants o.ends) (Some (finish_by σ.tables.store o)) None) o e

    taken : (fits c.service.programs R.wants parts.0.ends ≡ true) × (finish_by σ.tables.store parts.0 ≡ o)
    taken = cond_some (fits c.service.programs R.wants parts.0.ends) (finish_by σ.tables.store parts.0) o parts.2

    same : parts.0 ≡ changes.outcome R.tables.store made.store made.ends
    same = let f : c.service.programs.read t
        ≡ Some (changes.outcome R.tables.store made.store made.ends) = ap c.service.programs.read by.1
        ∙ k.laws.reads R.job order R.tables.store inside.job by.0 inside.store in let g = parts.1 in cc
finish_right c P x σ Serial R o k q inside st j by e =
    let p = then_parts (job_of (held_code σ.held) R.wants) (λ J. Some (finish c.service.programs J (below (length J)) σ.tables.store)) o e in
    let f : job_of P.server.served R.wants ≡ Some p.0 = job-more (held_code σ.held) P.server.served R.wants p.0 (held_right c P x σ k q) p.1 in
    let same : p.0 ≡ R.job = cc in
    let g : finish c.service.programs p.0 (below (length p.0)) σ.tables.store ≡ o = let h = p.2 in cc in
    sym g ∙ ap (λ z. finish c.service.programs z (below (length z)) σ.tables.store) same
    ∙ ap (λ (z : Tables). finish c.service.programs R.job (below (length R.job)) z.store) (sym st)

is_decided : {B : Type 0} (c : Config B) (P : Past B) (x : ℕ) (σ : Mid) (R : Ready) → Known c P → MidOther c P x σ
    → MoreLog σ.log.learned P.log → ready c.service.programs σ ≡ Some R → IsDecided c P σ R
is_decided {B} c P x σ R k o pre e = record {
  decision = d;
  tables = tables;
  wants = wants_same ∙ ap (λ (z : Ready). z.wants) made;
  finish_is = sym (ap (λ (z : Ready). z.finish) made) ∙ right;
}
  where
    m : Service B
    m = c.service

    p : (es : List Entry) × (batch_at σ.log.learned σ.applied ≡ Some es)
        × (and_then (verdict_at σ.log.learned σ.applied)
        (λ v. and_then (finish_of c.service.programs (held_code σ.held) (wants c.service.programs σ.tables es) σ.tables
        v) (λ o. Some (record { wants = wants c.service.programs σ.tables es; finish = o }))) ≡ Some R)
    p = then_parts (batch_at σ.log.learned σ.applied)
        (λ es. and_then (verdict_at σ.log.learned σ.applied)
        (λ v. and_then (finish_of c.service.programs (held_code σ.held) (wants c.service.programs σ.tables es) σ.tables
        v) (λ o. Some (record { wants = wants c.service.programs σ.tables es; finish = o })))) R e

    q : (v : Verdict) × (verdict_at σ.log.learned σ.applied ≡ Some v)
        × (and_then (finish_of c.service.programs (held_code σ.held) (wants c.service.programs σ.tables p.0) σ.tables v)
        (λ o. Some (record { wants = wants c.service.programs σ.tables p.0; finish = o })) ≡ Some R)
    q = then_parts (verdict_at σ.log.learned σ.applied)
        (λ v. and_then (finish_of c.service.programs (held_code σ.held) (wants c.service.programs σ.tables p.0) σ.tables
        v) (λ o. Some (record { wants = wants c.service.programs σ.tables p.0; finish = o }))) R p.2

    r : (t : Finish) × (finish_of c.service.programs (held_code σ.held) (wants c.service.programs σ.tables p.0) σ.tables
        q.0 ≡ Some t) × (Some (record { wants = wants c.service.programs σ.tables p.0; finish = t }) ≡ Some R)
    r = then_parts (finish_of c.service.programs (held_code σ.held) (wants c.service.programs σ.tables p.0) σ.tables
        q.0) (λ o. Some (record { wants = wants c.service.programs σ.tables p.0; finish = o })) R q.2

    made : record { wants = wants c.service.programs σ.tables p.0; finish = r.0 } ≡ R
    made = let h = r.2 in cc

    verdict : verdict_at P.log σ.applied ≡ Some q.0
    verdict = verdict-more σ.log.learned P.log σ.applied q.0 pre q.1

    value : (v : AnyValue) × (slice_get P.log (2 * σ.applied + 1) ≡ Some v) × (verdict_in (Some v) ≡ Some q.0)
    value = verdict_in-some (slice_get P.log (2 * σ.applied + 1)) q.0 verdict

    d : Decision c.service c.depth P.log P.server σ.applied
    d = k.decided σ.applied (below_half σ.applied (length P.log) (slice_get_within P.log (2 * σ.applied + 1) value.0 value.1))

    a : (T : Tables) × (after c.service.programs c.depth P.log P.server.served σ.applied ≡ Some T)
        × (round_at c.service.programs P.log P.server.served σ.applied T ≡ Some d.made)
    a = then_parts (after c.service.programs c.depth P.log P.server.served σ.applied)
        (round_at c.service.programs P.log P.server.served σ.applied) d.made d.is_round

    same_tables : a.0 ≡ σ.tables
    same_tables = let f = a.1 in let g = o.is_after in cc

    parts : RoundParts c.service P.log P.server.served σ.applied σ.tables d.made
    parts = round_parts c.service P.log P.server.served σ.applied σ.tables d.made
        (subst (λ z. round_at c.service.programs P.log P.server.served σ.applied z ≡ Some d.made) same_tables a.2)

    tables : d.made.tables ≡ σ.tables
    tables = parts.is_tables

    same_batch : parts.batch ≡ p.0
    same_batch = let f = batch-more σ.log.learned P.log σ.applied p.0 pre p.1 in let g = parts.is_batch in cc

    wants_same : d.made.wants ≡ wants c.service.programs σ.tables p.0
    wants_same = parts.is_wants ∙ ap (wants c.service.programs σ.tables) same_batch

    same_verdict : d.verdict ≡ q.0
    same_verdict = let f = d.is_verdict in let g = verdict in cc

    decided_value : (v : AnyValue) → MidOk c P (2 * σ.applied + 1) v → verdict_in (Some v) ≡ Some q.0 → VerdictOk c P σ.applied q.0
    decided_value (OfMid (Batch es)) y f = absurd (cc)
    decided_value (OfBack v) y f = absurd (cc)
    decided_value (OfMid (Decided v)) y f = let s : v
        ≡ q.0 = cc in subst (λ z. VerdictOk c P z q.0) (half-odd σ.applied) (subst (VerdictOk c P (half (2 * σ.applied + 1))) s y.1)

    ok : VerdictOk c P σ.applied q.0
    ok = decided_value value.0 (k.values (2 * σ.applied + 1) value.0 value.1) value.2

    same_made : ok.made ≡ d.made
    same_made = let f = ok.is_round in let g = d.is_round in cc

    right : r.0 ≡ finish_in c.service d.made d.verdict
    right = finish_right c P x σ q.0 d.made r.0 k o
        (round_in c.service c.depth P.log P.server.served σ.applied d.made k.laws d.is_round) tables
        (subst (λ z. job_of P.server.served z ≡ Some d.made.job) (sym parts.is_wants) parts.is_job)
        (subst (λ z. VerdictBy c P σ.applied z q.0) same_made ok.by)
        (subst (λ z. finish_of c.service.programs (held_code σ.held) z σ.tables q.0 ≡ Some r.0) (sym wants_same) r.1)
        ∙ ap (finish_in c.service d.made) (sym same_verdict)

pub apply_ok : {B : Type 0} (c : Config B) (P : Past B) (x : ℕ) (σ : Mid) (R : Ready) → Known c P → MidOther c P x σ
    → MoreLog σ.log.learned P.log → ready c.service.programs σ ≡ Some R
    → MidOther c P x (apply σ R) × Every (SentOk c P) (tells c.u x σ.tables.next R.wants R.finish.ends)
apply_ok {B} c P x σ R k o pre e = (
  record {
    is_after = subst (λ z. after c.service.programs c.depth P.log P.server.served (suc σ.applied) ≡ Some z) same
        (after-step c.service c.depth P.log P.server.served σ.applied d.made d.verdict
        (settled d.made.tables d.made.wants (finish_in c.service d.made d.verdict)) d.is_round d.is_verdict
        (cond-true (is_order (length d.made.job) (ordered d.made d.verdict))
        (Some (settled d.made.tables d.made.wants (finish_in c.service d.made d.verdict))) None d.is_ordered));
    tables = subst (TablesOk P.server) same d.tables;
    pending = λ y e f. o.pending y e
        (not_done_some (last_of (settled σ.tables R.wants R.finish).last y) (pending_of σ.pending y) e
        (sym (drop_at (settled σ.tables R.wants R.finish).last σ.pending y) ∙ f));
    tally = λ r y q f. o.tally r y q (without_claim σ.tally σ.applied r y q o.in_order f);
    in_order = rises_without 0 σ.tally σ.applied o.in_order;
    spec = λ v f. absurd (cc);
    held = o.held;
  },
  tells_ok c P c.u x σ.tables.next R.wants R.finish.ends (λ i a f. d.told.at i a (subst (λ z. slice_get z i ≡ Some a) (sym acts_same) f)),
)
  where
    t : IsDecided c P σ R
    t = is_decided c P x σ R k o pre e

    d : Decision c.service c.depth P.log P.server σ.applied
    d = (is_decided c P x σ R k o pre e).decision

    same : settled d.made.tables d.made.wants (finish_in c.service d.made d.verdict) ≡ settled σ.tables R.wants R.finish
    same = λ i. settled (t.tables i) (t.wants i) (sym t.finish_is i)

    acts_same : acts d.made.tables.next d.made.wants (finish_in c.service d.made d.verdict).ends ≡ acts σ.tables.next R.wants R.finish.ends
    acts_same = λ i. acts (t.tables i).next (t.wants i) (sym t.finish_is i).ends
