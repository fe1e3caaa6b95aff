-- The rows of a middle node beside the log.
use Rattle.std.proofs.Common.{◌≡◌, ℕ, ◌+◌, ◌*◌, Bool, true, false, cond, List, [], ◌∷◌, ◌++◌, refl, sym, ap, ◌∙◌, subst}
use Rattle.std.proofs.Common.{inl, inr, Option, Some, None, zero, suc, arith}
use Rattle.std.specs.Prelude.{slice_get, slice_set, slice_index_or, ◌⊎◌, ◌==◌, ◌&&◌, ◌||◌, not, nat_lt}
use Rattle.std.proofs.lemmas.Bool.{cond_both, and_parts, eqb-true, cases_eq}
use Rattle.std.proofs.lemmas.List.{append-nil}
use Rattle.aeg_base.specs.declared.names.Tier.{Tier}
use Rattle.log_model.proofs.Basics.{Every}
use Rattle.log_model.specs.Log.{is, open_at}
use Rattle.log_model.specs.declared.fact.Fact.{Fact as LogFact}
use Rattle.log_values.specs.declared.any_value.AnyValue.{AnyValue}
use Rattle.log_values.specs.declared.entry.Entry.{Entry}
use Rattle.round_model.specs.After.{batch_at, verdict_at}
use Rattle.aeg_base.specs.declared.names.Tier.TheVariants.{Mid as MidTier}
use Rattle.round_model.proofs.NumberedLaws.{find_put, rises_put}
use Rattle.round_model.specs.Held.{HeldState, hears, held_code, is_noted, takes, usable}
use Rattle.round_model.specs.Numbered.{find, rises}
use Rattle.tier_laws.proofs.MidNodes.CodesOfFacts.{Code, code_of}
use Rattle.tier_laws.proofs.MidNodes.HeldAnswers.{noted_held, taken_held, told_held}
use Rattle.round_model.specs.Lists.{put_at, and_then, is_some}
use Rattle.round_model.specs.Service.{Programs}
use Rattle.round_model.specs.Tables.{last_of, kept_of, pending_of, job_of, wants}
use Rattle.round_model.specs.declared.claim.Claim.{Claim}
use Rattle.round_model.specs.Verdicts.{Claims, Vote, claim, claim_of, claims_in, claims_or_none, with_claim}
use Rattle.run_model.specs.World.{Config, the_run}
use Rattle.tier_laws.proofs.Lists.ItemsByIndex.{at_here, at_there, pushed}
use Rattle.tier_laws.proofs.Rounds.DecidedRounds.{every-each}
use Rattle.tier_laws.proofs.MidNodes.RightMoves.{Here, Later, MoveOk, none_apply, plain, prefix, quiet, ready_later, stays_ok}
use Rattle.tier_laws.proofs.Events.GrowingPast.{DidRun, Grows, HeldOk, Known, MidOther, SentOk, Past, RunOk, Submitted}
use Rattle.tier_laws.proofs.Events.GrowingPast.{holds, other-more, run-more, submitted-more, vote_by}
use Rattle.tier_laws.proofs.Rounds.StableRounds.{then_parts}
use Rattle.tier_laws.proofs.Rounds.BackedVerdicts.{run_right}
use Rattle.tier_model.specs.declared.turn.Idle.TheVariants as why
use Rattle.tier_laws.proofs.Events.LogPackets.{NoLog, none_nil, none_each}
use Rattle.tier_laws.proofs.MidNodes.CodesOfFacts.{code_of-push}
use Rattle.tier_model.specs.Mid.{Mid, Ready, applies, ready}
use Rattle.exec_model.specs.Jobs.{run_job}
use Rattle.tier_model.specs.MidRows.{holds as with_answers, have_to, token_to, Running, running, has_seq, haves}
use Rattle.tier_model.specs.MidRows.{on_answer, on_have, on_request, on_token, pends, runs, runs_or_not, takes_answer}
use Rattle.tier_model.specs.MidRows.{tallied, tells_again, to_run, is_in, with_own, with_vote, work, work_run}
use Rattle.tier_model.specs.Moves.{Packet, idles, says, becomes}

-- REQUESTS

again_ok : {B : Type 0} (c : Config B) (Q : Past B) (x y s : ℕ) (o : Option (List ℕ))
    → ((text : List ℕ) → o ≡ Some text → Q.server.replies y s ≡ Some text) → Every (SentOk c Q) (tells_again x y s o)
again_ok c Q x y s None k = tt
again_ok c Q x y s (Some text) k = ((refl, k text refl), tt)

again_none : (x y s : ℕ) (o : Option (List ℕ)) → NoLog (tells_again x y s o)
again_none x y s None = none_nil
again_none x y s (Some text) = record { all = λ v. refl }

pend_other : {B : Type 0} (c : Config B) (Q : Past B) (x : ℕ) (σ : Mid) (e : Entry) → Submitted Q e → MidOther c Q x σ → MidOther c Q x (pends σ e)
pend_other {B} c Q x σ e s o = record {
  is_after = o.is_after;
  tables = o.tables;
  tally = o.tally;
  in_order = o.in_order;
  spec = o.spec;
  held = o.held;
  pending = λ y d f. pending y d f (cases_eq y e.client);
}
  where
    pending : (y : ℕ) (d : Entry) → pending_of (put_at None σ.pending e.client (Some e)) y ≡ Some d → (y ≡ e.client) ⊎ (y ≡ e.client → ⊥) → Submitted Q d
    pending y d f (inl g) = let h : Some e ≡ Some d = sym (at_here None σ.pending e.client (Some e))
        ∙ sym (ap (pending_of (put_at None σ.pending e.client (Some e))) g) ∙ f in let q : e ≡ d = cc in subst (Submitted Q) q s
    pending y d f (inr g) = o.pending y d (sym (at_there None σ.pending e.client (Some e) y g) ∙ f)

pub request_ok : {B : Type 0} (c : Config B) (P : Past B) (h : ℕ → List (LogFact AnyValue)) (soup : List Packet) (x : ℕ)
    (σ : Mid) (y s : ℕ) (body : List ℕ) → Here c P h soup x σ
    → Submitted P (record { client = y; seq = s; body = body }) → MoveOk c P h soup x [] (on_request x σ y s body)
request_ok {B} c P h soup x σ y s body k sub =
    cond_both ((s == last_of σ.tables.last y) && is_some (kept_of σ.tables.kept y))
    (says σ (tells_again x y s (kept_of σ.tables.kept y))) _ (MoveOk c P h soup x [])
    (λ e. quiet c P h soup x σ σ (tells_again x y s (kept_of σ.tables.kept y)) k refl (again_none x y s (kept_of σ.tables.kept y))
    (λ Q g o. (
      o,
      again_ok c Q x y s (kept_of σ.tables.kept y) (λ text f.
          let q : s ≡ last_of σ.tables.last y = eqb-true s (last_of σ.tables.last y)
          (and_parts (s == last_of σ.tables.last y) (is_some (kept_of σ.tables.kept y)) e).0 in
          subst (λ z. Q.server.replies y z ≡ Some text) (sym q) (o.tables.kept y text f)),
    )))
    (λ e. cond_both (not (s == suc (last_of σ.tables.last y)) || has_seq (pending_of σ.pending y) s)
    (idles σ why.Nothing) (becomes (pends σ (record { client = y; seq = s; body = body }))) (MoveOk c P h soup x [])
    (λ f. stays_ok c P h soup x σ k)
    (λ f. quiet c P h soup x σ (pends σ (record { client = y; seq = s; body = body })) [] k refl none_nil
    (λ Q g o. (
      pend_other c Q x σ (record { client = y; seq = s; body = body })
          (submitted-more P Q (record { client = y; seq = s; body = body }) g sub) o,
      tt,
    ))))

-- TOKENS

-- a list with another item at one place
set_item : {A : Type 0} (xs : List (Option A)) (y : ℕ) (a : A) (z : ℕ) (b : A)
    → slice_index_or (slice_set xs y (Some a)) z None ≡ Some b → ((z ≡ y) × (a ≡ b)) ⊎ (slice_index_or xs z None ≡ Some b)
set_item [] y a z b e = inr e
set_item (x ∷ xs) zero a zero b e = inl (refl, cc)
set_item (x ∷ xs) zero a (suc z) b e = inr e
set_item (x ∷ xs) (suc y) a zero b e = inr e
set_item (x ∷ xs) (suc y) a (suc z) b e = go (set_item xs y a z b e)
  where
    go : ((z ≡ y) × (a ≡ b)) ⊎ (slice_index_or xs z None ≡ Some b) → ((suc z ≡ suc y) × (a ≡ b)) ⊎ (slice_index_or xs z None ≡ Some b)
    go (inl f) = inl (ap suc f.0, f.1)
    go (inr f) = inr f

-- each claim of a tally with one more vote is that vote's or stood before
vote_claims : (tally : List (ℕ × Claims)) (v : Vote) (r y : ℕ) (q : Claim)
    → claim_of (claims_in (with_vote tally v) r) y ≡ Some q → (vote_by r y q ≡ v) ⊎ (claim_of (claims_in tally r) y ≡ Some q)
vote_claims tally v r y q e = go (v.round == r) refl
    (sym (ap (λ z. claim_of (claims_or_none z) y)
    (find_put tally v.round (with_claim (claims_in tally v.round) v.from (claim v)) r)) ∙ e)
  where
    go : (b : Bool) → (v.round == r) ≡ b
        → claim_of (claims_or_none
        (cond b (Some (with_claim (claims_in tally v.round) v.from (claim v))) (find tally r))) y ≡ Some q
        → (vote_by r y q ≡ v) ⊎ (claim_of (claims_in tally r) y ≡ Some q)
    go true f g = by (set_item (claims_in tally v.round) v.from (claim v) y q g)
      where
        same : v.round ≡ r
        same = eqb-true v.round r f

        by : ((y ≡ v.from) × (claim v ≡ q)) ⊎ (claim_of (claims_in tally v.round) y ≡ Some q) → (vote_by r y q ≡ v) ⊎ (claim_of (claims_in tally r) y ≡ Some q)
        by (inl h) = inl (λ i. record {
          round = sym same i;
          from = h.0 i;
          token = sym (ap (λ (z : Claim). z.token) h.1) i;
          order = sym (ap (λ (z : Claim). z.order) h.1) i;
        })
        by (inr h) = inr (subst (λ z. claim_of (claims_in tally z) y ≡ Some q) same h)
    go false f g = inr g

voted : {B : Type 0} (Q : Past B) (tally : List (ℕ × Claims)) (v : Vote) → DidRun Q v
    → ((r y : ℕ) (q : Claim) → claim_of (claims_in tally r) y ≡ Some q → DidRun Q (vote_by r y q))
    → (r y : ℕ) (q : Claim) → claim_of (claims_in (with_vote tally v) r) y ≡ Some q → DidRun Q (vote_by r y q)
voted Q tally v own old r y q e = by (vote_claims tally v r y q e)
  where
    by : (vote_by r y q ≡ v) ⊎ (claim_of (claims_in tally r) y ≡ Some q) → DidRun Q (vote_by r y q)
    by (inl f) = subst (DidRun Q) (sym f) own
    by (inr f) = old r y q f

vote_in_order : (tally : List (ℕ × Claims)) (v : Vote) → rises 0 tally ≡ true → rises 0 (with_vote tally v) ≡ true
vote_in_order tally v h = rises_put 0 tally v.round (with_claim (claims_in tally v.round) v.from (claim v)) (omega arith) h

tallied_other : {B : Type 0} (c : Config B) (Q : Past B) (x : ℕ) (σ : Mid) (v : Vote) → DidRun Q v → MidOther c Q x σ → MidOther c Q x (tallied σ v)
tallied_other c Q x σ v r o = record {
  is_after = o.is_after;
  tables = o.tables;
  pending = o.pending;
  spec = o.spec;
  held = o.held;
  in_order = vote_in_order σ.tally v o.in_order;
  tally = voted Q σ.tally v r o.tally;
}

pub token_ok : {B : Type 0} (c : Config B) (P : Past B) (h : ℕ → List (LogFact AnyValue)) (soup : List Packet) (x : ℕ)
    (σ : Mid) (v : Vote) → Here c P h soup x σ → DidRun P v → MoveOk c P h soup x [] (on_token σ v)
token_ok c P h soup x σ v k r =
    cond_both (nat_lt (2 * v.round + 1) (open_at σ.log) || is_in σ.tally v) (idles σ why.Nothing) (becomes (tallied σ v)) (MoveOk c P h soup x [])
    (λ e. stays_ok c P h soup x σ k)
    (λ e. quiet c P h soup x σ (tallied σ v) [] k refl none_nil (λ Q g o. (tallied_other c Q x σ v (run-more P Q v g r) o, tt)))

-- ANSWERS

have_none : (u x : ℕ) (t : Tier) (n code : ℕ) → NoLog (haves u x t n code)
have_none u x t n code = none_each (2 * u + 1) (is x) (have_to x t n code) (λ y. record { all = λ v. refl })

-- an answer is taken: its fact is written
takes_ok : {B : Type 0} (c : Config B) (P : Past B) (h : ℕ → List (LogFact AnyValue)) (soup : List Packet) (x : ℕ)
    (σ : Mid) (H : HeldState) (t : Tier) (n code : ℕ) → Here c P h soup x σ → P.server.served t n ≡ Some code
    → ((Q : Past B) → Grows P Q → Q.codes MidTier x ≡ P.codes MidTier x ++ record { tier = t; num = n; code = code }
    ∷ [] → HeldOk c Q x H) → MoveOk c P h soup x [] (takes_answer c.u x σ H t n code)
takes_ok {B} c P h soup x σ H t n code k s ok = plain c P h soup x σ [] (takes_answer c.u x σ H t n code) k refl refl (have_none c.u x t n code)
    (λ i q e. one i q e) (λ i r e. absurd (cc)) later
  where
    one : (i : ℕ) (q : Code) → slice_get (record { tier = t; num = n; code = code } ∷ []) i ≡ Some q → P.server.served q.tier q.num ≡ Some q.code
    one zero q e = let f : record { tier = t; num = n; code = code } ≡ q = cc in subst (λ (z : Code). P.server.served z.tier z.num ≡ Some z.code) f s
    one (suc i) q e = absurd (cc)

    later : (Q : Past B) → Grows P Q → Known c Q → Q.codes MidTier x ≡ P.codes MidTier x
        ++ record { tier = t; num = n; code = code } ∷ [] → ((i : ℕ) (r : Vote) → slice_get [] i ≡ Some r → DidRun Q r)
        → Later c Q x (takes_answer c.u x σ H t n code)
    later Q g kn e rs =
        let mine : holds Q t n x ≡ true = ap (λ z. is_some (code_of z t n)) e ∙ code_of-push (P.codes MidTier x) t n code in
        let R : Past B = record { codes = P.codes; log = Q.log; server = Q.server; runs = Q.runs; submitted = Q.submitted } in
        let w : MidOther c R x σ = other-more c P R x σ
        (record { held = λ y t n f. f; log = g.log; kept = g.kept; runs = g.runs; submitted = g.submitted }) refl k.other in
        record {
          other = record {
            is_after = w.is_after;
            tables = w.tables;
            pending = w.pending;
            tally = w.tally;
            in_order = w.in_order;
            spec = w.spec;
            held = ok Q g e;
          };
          sends = every-each (SentOk c Q) (2 * c.u + 1) (is x) (have_to x t n code) (λ y. (g.kept.served t n code s, mine));
        }

pub answer_ok : {B : Type 0} (c : Config B) (P : Past B) (h : ℕ → List (LogFact AnyValue)) (soup : List Packet) (x : ℕ)
    (σ : Mid) (t : Tier) (n code : ℕ) → Here c P h soup x σ → P.server.served t n ≡ Some code
    → MoveOk c P h soup x [] (on_answer c.u x σ t n code)
answer_ok c P h soup x σ t n code k s =
    cond_both (is_some (held_code σ.held t n)) (idles σ why.Nothing)
    (takes_answer c.u x σ (takes σ.held t n code) t n code) (MoveOk c P h soup x []) (λ e. stays_ok c P h soup x σ k)
    (λ e. takes_ok c P h soup x σ (takes σ.held t n code) t n code k s (λ Q g f. taken_held c P Q x σ.held t n code k.other.held g f))

holds_other : {B : Type 0} (c : Config B) (Q : Past B) (x : ℕ) (σ : Mid) (H : HeldState) → HeldOk c Q x H → MidOther c Q x σ → MidOther c Q x (with_answers σ H)
holds_other c Q x σ H e o = record {
  is_after = o.is_after;
  tables = o.tables;
  pending = o.pending;
  tally = o.tally;
  in_order = o.in_order;
  spec = o.spec;
  held = e;
}

pub have_ok : {B : Type 0} (c : Config B) (P : Past B) (h : ℕ → List (LogFact AnyValue)) (soup : List Packet) (x : ℕ)
    (σ : Mid) (from : ℕ) (t : Tier) (n code : ℕ) → Here c P h soup x σ → P.server.served t n ≡ Some code → holds P t n from ≡ true
    → MoveOk c P h soup x [] (on_have c.u x σ from t n code)
have_ok c P h soup x σ from t n code k s f =
    cond_both (is_noted σ.held from t n) (idles σ why.Nothing) _ (MoveOk c P h soup x []) (λ e. stays_ok c P h soup x σ k)
    (λ e. cond_both (is_some (held_code σ.held t n)) (becomes (with_answers σ (hears σ.held from t n code)))
    (takes_answer c.u x σ (hears σ.held from t n code) t n code) (MoveOk c P h soup x [])
    (λ e. quiet c P h soup x σ (with_answers σ (hears σ.held from t n code)) [] k refl none_nil
    (λ Q g o. (holds_other c Q x σ (hears σ.held from t n code) (noted_held c Q x σ.held from t n code o.held (g.held from t n f) e) o, tt)))
    (λ e. takes_ok c P h soup x σ (hears σ.held from t n code) t n code k s (λ Q g d. told_held c P Q x σ.held from t n code k.other.held g f d)))

-- WORK

-- the tally with its own vote
own_voted : {B : Type 0} (Q : Past B) (tally : List (ℕ × Claims)) (v : Vote) → DidRun Q v
    → ((r y : ℕ) (q : Claim) → claim_of (claims_in tally r) y ≡ Some q → DidRun Q (vote_by r y q))
    → (r y : ℕ) (q : Claim) → claim_of (claims_in (with_own tally v) r) y ≡ Some q → DidRun Q (vote_by r y q)
own_voted Q tally v own old = cond_both (is_in tally v) tally (with_vote tally v) (λ z. (r y : ℕ) (q : Claim)
    → claim_of (claims_in z r) y ≡ Some q → DidRun Q (vote_by r y q)) (λ e. old) (λ e. voted Q tally v own old)

own_in_order : (tally : List (ℕ × Claims)) (v : Vote) → rises 0 tally ≡ true → rises 0 (with_own tally v) ≡ true
own_in_order tally v h = cond_both (is_in tally v) tally (with_vote tally v) (λ z. rises 0 z ≡ true) (λ e. h) (λ e. vote_in_order tally v h)

runs_ok : {B : Type 0} (c : Config B) (P : Past B) (h : ℕ → List (LogFact AnyValue)) (soup : List Packet) (x : ℕ)
    (σ : Mid) (r : Running) → Here c P h soup x σ → r.vote.from ≡ x → RunOk c P r.vote
    → MoveOk c P h soup x (r.vote ∷ []) (runs c.u x σ r)
runs_ok {B} c P h soup x σ r k from ok = plain c P h soup x σ (r.vote ∷ []) (runs c.u x σ r) k refl refl
    (none_each (2 * c.u + 1) (is x) (token_to x r.vote) (λ y. record { all = λ t. refl }))
    (λ i q e. absurd (cc)) (pushed (RunOk c P) [] r.vote (λ i w e. absurd (cc)) ok) later
  where
    later : (Q : Past B) → Grows P Q → Known c Q → Q.codes MidTier x ≡ P.codes MidTier x ++ []
        → ((i : ℕ) (w : Vote) → slice_get (r.vote ∷ []) i ≡ Some w → DidRun Q w) → Later c Q x (runs c.u x σ r)
    later Q g kn e rs =
        let o : MidOther c Q x σ = other-more c P Q x σ g (e ∙ append-nil (P.codes MidTier x)) k.other in
        let mine : DidRun Q r.vote = rs 0 r.vote refl in
        record {
          other = record {
            is_after = o.is_after;
            tables = o.tables;
            pending = o.pending;
            held = o.held;
            in_order = own_in_order σ.tally r.vote o.in_order;
            spec = λ w f. let s : r.vote ≡ w = cc in subst (DidRun Q) s mine;
            tally = own_voted Q σ.tally r.vote mine o.tally;
          };
          sends = every-each (SentOk c Q) (2 * c.u + 1) (is x) (token_to x r.vote)
              (λ y. subst (λ z. DidRun Q
              (record { round = r.vote.round; from = z; token = r.vote.token; order = r.vote.order })) from mine);
        }

ran_from : (u : ℕ) (m : Programs) (x : ℕ) (σ : Mid) (schedule : List ℕ) (r : Running) → to_run u m x σ schedule ≡ Some r → r.vote.from ≡ x
ran_from u m x σ schedule r e = go (is_some σ.spec) e
  where
    some : and_then (batch_at σ.log.learned σ.applied)
        (λ es. and_then (job_of (usable σ.held) (wants m σ.tables es))
        (λ J. Some (running m x σ (run_job m.begins J σ.tables.store schedule)))) ≡ Some r → r.vote.from ≡ x
    some f =
        let p = then_parts (batch_at σ.log.learned σ.applied)
        (λ es. and_then (job_of (usable σ.held) (wants m σ.tables es))
        (λ J. Some (running m x σ (run_job m.begins J σ.tables.store schedule)))) r f in
        let q = then_parts (job_of (usable σ.held) (wants m σ.tables p.0)) (λ J. Some (running m x σ (run_job m.begins J σ.tables.store schedule))) r p.2 in
        let s : running m x σ (run_job m.begins q.0 σ.tables.store schedule) ≡ r = let h = q.2 in cc in sym (ap (λ (z : Running). z.vote.from) s)

    go : (b : Bool) → cond b None
        (and_then (batch_at σ.log.learned σ.applied)
        (λ es. and_then (job_of (usable σ.held) (wants m σ.tables es))
        (λ J. Some (running m x σ (run_job m.begins J σ.tables.store schedule))))) ≡ Some r → r.vote.from ≡ x
    go true f = absurd (cc)
    go false f = some f

ready_state : {B : Type 0} (c : Config B) (P : Past B) (h : ℕ → List (LogFact AnyValue)) (soup : List Packet) (x : ℕ)
    (σ : Mid) (o : Option Ready) → Here c P h soup x σ → ready c.service.programs σ ≡ o
    → MoveOk c P h soup x [] (applies c.u c.service.programs x σ o)
ready_state c P h soup x σ None k f = stays_ok c P h soup x σ k
ready_state {B} c P h soup x σ (Some R) k f = plain c P h soup x σ [] (applies c.u c.service.programs x σ (Some R)) k
    refl refl (none_apply c.u x σ (Some R)) (λ i q e. absurd (cc)) (λ i r e. absurd (cc))
    (λ Q g kn e rs.
    let o : MidOther c Q x σ = other-more c P Q x σ g (e ∙ append-nil (P.codes MidTier x)) k.other in
    let r = ready_later c Q x σ (Some R) kn o (record { at = λ p v f. g.log.at p v ((prefix c P h soup x σ k).at p v f) }) (λ S g. f ∙ g) in
    record { other = r.0; sends = r.1 })

run_or_not_ok : {B : Type 0} (c : Config B) (P : Past B) (h : ℕ → List (LogFact AnyValue)) (soup : List Packet) (x : ℕ)
    (σ : Mid) (schedule : List ℕ) (o : Option Running) → Here c P h soup x σ
    → to_run c.u c.service.programs x σ schedule ≡ o → MoveOk c P h soup x (the_run o) (runs_or_not c.u c.service.programs x σ o)
run_or_not_ok c P h soup x σ schedule None k e = stays_ok c P h soup x σ k
run_or_not_ok c P h soup x σ schedule (Some r) k e = runs_ok c P h soup x σ r k
    (ran_from c.u c.service.programs x σ schedule r e)
    (run_right c P x σ schedule r k.inside k.laws k.known k.other (prefix c P h soup x σ k) e)

pub work_ok : {B : Type 0} (c : Config B) (P : Past B) (h : ℕ → List (LogFact AnyValue)) (soup : List Packet) (x : ℕ)
    (σ : Mid) (schedule : List ℕ) → Here c P h soup x σ
    → MoveOk c P h soup x (the_run (work_run c.u c.service.programs x σ schedule)) (work c.u c.service.programs x σ schedule)
work_ok {B} c P h soup x σ schedule k = go (is_some (verdict_at σ.log.learned σ.applied))
  where
    go : (b : Bool) → MoveOk c P h soup x (the_run (cond b None (to_run c.u c.service.programs x σ schedule)))
        (cond b (applies c.u c.service.programs x σ (ready c.service.programs σ))
        (runs_or_not c.u c.service.programs x σ (to_run c.u c.service.programs x σ schedule)))
    go true = ready_state c P h soup x σ (ready c.service.programs σ) k refl
    go false = run_or_not_ok c P h soup x σ schedule (to_run c.u c.service.programs x σ schedule) k refl
