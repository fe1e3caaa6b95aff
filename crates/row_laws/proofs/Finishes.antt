-- What a verdict makes of a round's job: its store and its ends are in range.
use Rattle.std.proofs.Common.{◌≡◌, ℕ, suc, ◌<◌, ◌≤◌, ◌^◌, Bool, true, false, cond, List, [], ◌∷◌, length, refl, sym, ap, ◌∙◌, subst, arith, Option, Some, None}
use Rattle.std.specs.Prelude.{slice_get, ◌==◌}
use Rattle.std.proofs.lemmas.Bool.{and_parts, cond_both, eqb-true}
use Rattle.std.proofs.lemmas.Option.{same_Some}
use Rattle.aeg_base.specs.Store.{Store, written, written_all}
use Rattle.aeg_base.specs.declared.names.Key.{Key}
use Rattle.aeg_base.specs.declared.names.ReqId.{ReqId}
use Rattle.svc_api.specs.Plan.{Writes, Ends, IsEnding, IsKey}
use Rattle.svc_api.specs.Segment.{Segment, GoesOn, HasStage}
use Rattle.svc_api.specs.declared.action.Ending.{Ending}
use Rattle.svc_api.specs.declared.action.Ending.TheVariants.{Reply, Call}
use Rattle.svc_api.specs.declared.outcome.Outcome.{Outcome}
use Rattle.exec_model.specs.declared.job.Seg.{Seg}
use Rattle.log_model.proofs.Basics.{Every}
use Rattle.log_values.specs.declared.mid_value.Verdict.{Verdict}
use Rattle.log_values.specs.declared.mid_value.Verdict.TheVariants.{Commit, Serial}
use Rattle.log_values.specs.Outcomes.{outcome_at, FitsPair, FitsOutcome, IsCommit}
use Rattle.log_values.specs.Values.{FitsMid}
use Rattle.log_values.specs.declared.mid_value.MidValue.TheVariants as values
use Rattle.log_values.specs.Reading.{whole}
use Rattle.round_model.specs.Lists.{and_then, below, tabulate}
use Rattle.round_model.specs.Service.{Programs, row_of, segment, serial_end, Finish, finish, finish_by}
use Rattle.round_model.specs.Settling.{fit, fits, finish_of}
use Rattle.round_model.specs.Tables.{Tables, Want, Codes, job_of}
use Rattle.tier_laws.specs.Said.{IsStore, IsJob}
use Rattle.tier_laws.proofs.Rounds.StableRounds.{then_parts}
use Rattle.tier_laws.proofs.Services.Stores.{bounded, one_store_in}
use Rattle.tier_laws.proofs.Services.Tokens.{serial_end_in, store_is_in, token_read}
use Rattle.row_laws.specs.Services.{IsServiceIn}
use Rattle.row_laws.proofs.Wanted.{who_wants, IsWantIn, IsFor, AreFor, job_for, job_in, there_some}

-- it has a spelling, and a call goes on at a stage that the request has
abbrev pub IsEndIn : Programs → Want → Ending → Type 0
IsEndIn m w e = IsEnding e × (fit m w e ≡ true)

-- there is one for each segment
abbrev pub AreEndsIn : Programs → List Want → List Ending → Type 0
AreEndsIn m [] [] = Unit {0}
AreEndsIn m [] (e ∷ es) = ⊥
AreEndsIn m (w ∷ ws) [] = ⊥
AreEndsIn m (w ∷ ws) (e ∷ es) = IsEndIn m w e × AreEndsIn m ws es

pub ends_length : (m : Programs) (ws : List Want) (es : List Ending) → AreEndsIn m ws es → length es ≡ length ws
ends_length m [] [] k = refl
ends_length m [] (e ∷ es) k = absurd k
ends_length m (w ∷ ws) [] k = absurd k
ends_length m (w ∷ ws) (e ∷ es) k = ap suc (ends_length m ws es k.1)

pub record IsFinishIn (m : Programs) (ws : List Want) (o : Finish) : Type 0 where
  pub store : IsStore o.store
  pub ends : AreEndsIn m ws o.ends

-- A COMMIT

pub fitting_ends : (m : Programs) (ws : List Want) (es : List Ending) → fits m ws es ≡ true → Every IsEnding es → AreEndsIn m ws es
fitting_ends m [] [] f k = tt
fitting_ends m [] (e ∷ es) f k = absurd (cc)
fitting_ends m (w ∷ ws) [] f k = absurd (cc)
fitting_ends m (w ∷ ws) (e ∷ es) f k = let p = and_parts (fit m w e) (fits m ws es) f in ((k.0, p.0), fitting_ends m ws es p.1 k.1)

written_in : (s : Store) (k : Key) (v : ℕ) → IsStore s → IsKey k → v < 2 ^ 64 → IsStore (written s k v)
written_in s k v st key small =
    one_store_in (λ i. Writes k v (Ends (Reply []))) (λ i. (omega arith, (omega arith, (key, (small, (omega arith, omega arith)))))) 0 s st

pub all_written : (s : Store) (ps : List (Key × ℕ)) → IsStore s → Every FitsPair ps → IsStore (written_all s ps)
all_written s [] st k = st
all_written s (p ∷ ps) st k = all_written (written s p.0 p.1) ps (written_in s p.0 p.1 st k.0.0 k.0.1) k.1

-- the outcome that a token tells has a spelling
pub told_fits : (m : Programs) (token order : List ℕ) (o : Outcome) → IsServiceIn m → IsCommit token order → m.read token ≡ Some o → FitsOutcome o
told_fits m token order o k c e =
    subst FitsOutcome (same_Some c.told o (sym (token_read c.told c.fits) ∙
    (ap (λ z. whole (outcome_at z)) (sym c.spelled) ∙ (sym (k.reads token) ∙ e)))) c.fits

pub commit_in : (m : Programs) (ws : List Want) (T : Tables) (token order : List ℕ) (f : Finish) → IsServiceIn m → IsStore T.store → IsCommit token order
    → and_then (m.read token) (λ o. cond (fits m ws o.ends) (Some (finish_by T.store o)) None) ≡ Some f → IsFinishIn m ws f
commit_in m ws T token order f k st c e =
    let p = then_parts (m.read token) (λ o. cond (fits m ws o.ends) (Some (finish_by T.store o)) None) f e in
    go p.0 (told_fits m token order p.0 k c p.1) (fits m ws p.0.ends) refl p.2
  where
    go : (o : Outcome) → FitsOutcome o → (b : Bool) → fits m ws o.ends ≡ b → cond b (Some (finish_by T.store o)) None ≡ Some f → IsFinishIn m ws f
    go o fine true g h = subst (IsFinishIn m ws) (same_Some (finish_by T.store o) f h)
        (record { store = all_written T.store o.pairs st fine.pairs; ends = fitting_ends m ws o.ends g fine.ends })
    go o fine false g h = absurd (cc)

-- A SERIAL

staged : (m : Programs) (w : Want) (e : Ending) → HasStage (m.table (who_wants w) w.body) e → fit m w e ≡ true
staged m w (Reply text) h = refl
staged m w (Call t stage text) h = there_some (m.table (who_wants w) w.body stage) h

-- a segment's call goes on
row_fits : (m : Programs) (w : Want) (row : Option (Option ℕ → Store → Segment)) (answer : Option ℕ) (s : Store) → GoesOn row (m.table (who_wants w) w.body)
    → fit m w (row_of row answer s).ending ≡ true
row_fits m w None answer s g = refl
row_fits m w (Some row) answer s g = staged m w (row answer s).ending (g answer s)

pub segment_fits : (m : Programs) (w : Want) (j : Seg) (s : Store) → IsServiceIn m → IsFor w j → fit m w (segment m (Some j) s).ending ≡ true
segment_fits m w j s k f =
    row_fits m w (m.table j.who j.body j.stage) j.answer s
    (subst (λ z. GoesOn (m.table j.who j.body j.stage) (m.table z.0 z.1)) pair (k.again j.who j.body j.stage))
  where
    pair : ◌≡◌ {A = ReqId × List ℕ} (j.who, j.body) (who_wants w, w.body)
    pair = ap (λ z. (z, j.body)) f.who ∙ ap (λ z. (who_wants w, z)) f.body

pub end_fits : (m : Programs) (J : List Seg) (order : List ℕ) (s : Store) (k : ℕ) (w : Want) (j : Seg) → IsServiceIn m → slice_get J k ≡ Some j → IsFor w j
    → fit m w (serial_end m J order s k) ≡ true
end_fits m J [] s k w j i e f = refl
end_fits m J (x ∷ xs) s k w j i e f = cond_both (x == k) _ _ (λ z. fit m w z ≡ true)
    (λ g. subst (λ (o : Option Seg). fit m w (segment m o s).ending ≡ true) (sym (ap (λ z. slice_get J z) (eqb-true x k g) ∙ e)) (segment_fits m w j s i f))
    (λ g. end_fits m J xs (segment m (slice_get J x) s).store k w j i e f)

-- ends by the places of their segments
ends_from : (m : Programs) (ws : List Want) (J : List Seg) (f : ℕ → Ending) → AreFor ws J → ((k : ℕ) → IsEnding (f k))
    → ((k : ℕ) (w : Want) (j : Seg) → slice_get J k ≡ Some j → IsFor w j → fit m w (f k) ≡ true)
    → AreEndsIn m ws (tabulate (length J) f)
ends_from m [] [] f k i g = tt
ends_from m [] (j ∷ js) f k i g = absurd k
ends_from m (w ∷ ws) [] f k i g = absurd k
ends_from m (w ∷ ws) (j ∷ js) f k i g = ((i 0, g 0 w j refl k.0), ends_from m ws js (λ n. f (suc n)) k.1 (λ n. i (suc n)) (λ n v y e h. g (suc n) v y e h))

pub run_in : (m : Programs) (ws : List Want) (J : List Seg) (order : List ℕ) (s : Store) → IsServiceIn m → IsStore s → AreFor ws J → IsJob J
    → IsFinishIn m ws (finish m J order s)
run_in m ws J order s k st f job = record {
  store = store_is_in m k.folds k.proper J order s job st;
  ends = ends_from m ws J (serial_end m J order s) f (λ n. serial_end_in m k.folds J (bounded m.begins k.proper J job) order s n st)
      (λ n w j e g. end_fits m J order s n w j k e g);
}

-- EITHER VERDICT

pub finish_in : (m : Programs) (A : Codes) (ws : List Want) (T : Tables) (v : Verdict) (f : Finish) → IsServiceIn m → length ws ≤ 16 → Every (IsWantIn m) ws
    → IsStore T.store → FitsMid (values.Verdict v) → finish_of m A ws T v ≡ Some f
    → IsFinishIn m ws f
finish_in m A ws T (Commit token order) f k few ask st c e = commit_in m ws T token order f k st c e
finish_in m A ws T Serial f k few ask st c e =
    let p = then_parts (job_of A ws) (λ J. Some (finish m J (below (length J)) T.store)) f e in
    let for = job_for A ws p.0 p.1 in
    subst (IsFinishIn m ws) (same_Some (finish m p.0 (below (length p.0)) T.store) f p.2)
    (run_in m ws p.0 (below (length p.0)) T.store k st for (job_in m ws p.0 for few ask))
