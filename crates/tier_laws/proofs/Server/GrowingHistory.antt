-- As the logs grow the history stays legal, and the tables mirror the server.
pub use Rattle.tier_laws.proofs.Invariant.HistoryFollowsLogs.{TablesOk, ToldAll, ordered, finish_in, Decision, Ledger}
use Rattle.std.proofs.Common.{◌≡◌, ℕ, ◌+◌, ◌*◌, ◌<◌, Bool, true, false, cond, List, [], ◌∷◌, ◌++◌, length, refl, sym}
use Rattle.std.proofs.Common.{ap, ◌∙◌, subst, inl, inr, Some, None, zero, suc, arith}
use Rattle.std.specs.Prelude.{slice_get, ◌⊎◌, not}
use Rattle.std.proofs.lemmas.Bool.{cond-true, cond-false, cases_eq}
use Rattle.std.proofs.lemmas.List.{append-nil}
use Rattle.std.proofs.lemmas.Option.{slice_get_within}
use Rattle.aeg_base.specs.Store.{Store}
use Rattle.aeg_base.specs.declared.names.Tier.{Tier}
use Rattle.aeg_base.specs.declared.names.Tier.TheVariants.{Inv}
use Rattle.exec_model.specs.declared.job.Seg.{Seg}
use Rattle.log_values.specs.declared.any_value.AnyValue.{AnyValue}
use Rattle.log_values.specs.declared.any_value.AnyValue.TheVariants.{Mid as OfMid}
use Rattle.log_values.specs.declared.entry.Entry.{Entry}
use Rattle.log_values.specs.declared.mid_value.MidValue.TheVariants.{Batch, Verdict as Decided}
use Rattle.log_values.specs.declared.mid_value.Verdict.{Verdict}
use Rattle.round_model.specs.After.{Round, after, order_in, round, round_at, verdict_at, verdict_in}
use Rattle.round_model.specs.Lists.{half, odd}
use Rattle.round_model.specs.Service.{Service, finish, is_order, serial_end, times}
use Rattle.round_model.specs.Tables.{last_of, kept_of, Codes as Answers, Tables, Want, job_of, kept_after, kept_by, last_after, numbers, settled, wants}
use Rattle.run_model.specs.Histories.{steps_by, verdict_steps}
use Rattle.server_model.specs.History.{History as History_}
use Rattle.server_model.specs.declared.history.Hist.TheVariants.{Serve}
use Rattle.svc_api.specs.declared.action.Ending.{Ending}
use Rattle.svc_api.specs.declared.action.Ending.TheVariants.{Call, Reply}
use Rattle.tier_laws.proofs.Rounds.ActsByIndex.{Act, Distinct, NoneOf, acts, acts_want, find_client, kept-in, kept-out, last-in, last-out, want_acts}
use Rattle.svc_api.proofs.Orders.{once-at}
use Rattle.tier_laws.proofs.Server.LegalRounds.{RoundDone, Setting, ends_of, job-length, round_legal}
use Rattle.tier_laws.proofs.Server.MirroredTables.{Mirrors, mirrors_kept, setting}
use Rattle.tier_laws.proofs.Rounds.AnyOrder.{Kept, ToldOne, told-kept, kept-refl}
use Rattle.tier_laws.proofs.Rounds.StableRounds.{MoreAnswers, MoreLog, RoundParts, after-more, after-step, round-more, round_parts, then_parts, verdict-more}
use Rattle.tier_laws.proofs.Server.LookUps.{LegalFrom, Server, empty_server, result_or, server, server_from, step}
use Rattle.tier_laws.proofs.Lists.ItemsByIndex.{get_end, get_left, length_push, length-tabulate}

-- LISTS AND POSITIONS

pub more-push : {A : Type 0} (xs : List A) (a : A) → MoreLog xs (xs ++ a ∷ [])
more-push xs a = record { at = λ i v e. get_left xs (a ∷ []) i v e }

pub half-is : (n : ℕ) → n ≡ cond (odd n) (2 * half n + 1) (2 * half n)
half-is zero = refl
half-is (suc n) = go (odd n) (half-is n)
  where
    go : (b : Bool) → n ≡ cond b (2 * half n + 1) (2 * half n)
        → suc n ≡ cond (not b) (2 * cond b (suc (half n)) (half n) + 1) (2 * cond b (suc (half n)) (half n))
    go true e = omega arith
    go false e = omega arith

-- WHAT ONLY GROWS

pub tables-kept : {B : Type 0} (O P : Server B) (T : Tables) → Kept O P → TablesOk O T → TablesOk P T
tables-kept O P T g k = record {
  kept = λ c text e. g.replies c (last_of T.last c) text (k.kept c text e);
  parked = λ i p e. g.calls p.tier p.num p.text (k.parked i p e);
}

pub answers-kept : {B : Type 0} (O P : Server B) → Kept O P → MoreAnswers O.served P.served
answers-kept O P g = record { at = g.served }

pub decision-more : {B : Type 0} (m : Service B) (D : ℕ) (L K : List AnyValue) (O P : Server B) (r : ℕ) → MoreLog L K
    → Kept O P → Decision m D L O r → Decision m D K P r
decision-more m D L K O P r l g d = record {
  made = d.made;
  verdict = d.verdict;
  is_round = round-more m D L K O.served P.served r d.made l (answers-kept O P g) d.is_round;
  is_verdict = verdict-more L K r d.verdict l d.is_verdict;
  is_ordered = d.is_ordered;
  told = record { at = λ i a e. told-kept O P a.want a.num a.ending g (d.told.at i a e) };
  tables = tables-kept O P _ g d.tables;
}

-- THE LEDGER

pub server-append : {B : Type 0} (m : Service B) (O : Server B) (h k : History_) → server_from m O (h ++ k) ≡ server_from m (server_from m O h) k
server-append m O [] k = refl
server-append m O (x ∷ h) k = server-append m (result_or O (step m O x)) h k

pub legal-append : {B : Type 0} (m : Service B) (O : Server B) (h k : History_) → LegalFrom m O h → LegalFrom m (server_from m O h) k → LegalFrom m O (h ++ k)
legal-append m O [] k a b = b
legal-append m O (x ∷ h) k a b = (a.0, legal-append m (result_or O (step m O x)) h k a.1 b)

-- a longer history, with the ledger of longer logs
pub record Extended {B : Type 0} (m : Service B) (D : ℕ) (h : History_) (L : List AnyValue) (K : Tier → List AnyValue) (k : History_) : Type 0 where
  pub ledger : Ledger m D L K k
  pub kept : Kept (server m h) (server m k)

-- A batch
pub ledger_batch : {B : Type 0} (m : Service B) (D : ℕ) (L : List AnyValue) (K : Tier → List AnyValue) (h : History_)
    (es : List Entry) → odd (length L) ≡ false → Ledger m D L K h → Ledger m D (L ++ OfMid (Batch es) ∷ []) K h
ledger_batch m D L K h es even g = record {
  legal = g.legal;
  tables = g.tables;
  is_after = rw same (after-more m D L (L ++ OfMid (Batch es) ∷ []) (server m h).served (server m h).served
      (half (length L)) g.tables (more-push L (OfMid (Batch es))) (record { at = λ t n code e. e }) g.is_after);
  mirrors = g.mirrors;
  tables_ok = g.tables_ok;
  decided = λ r l. decision-more m D L (L ++ OfMid (Batch es) ∷ []) (server m h) (server m h) r
      (more-push L (OfMid (Batch es))) (kept-refl (server m h)) (g.decided r (subst (λ z. r < z) same l));
  served = g.served;
  backs = g.backs;
  settles = g.settles;
}
  where
    same : half (length (L ++ OfMid (Batch es) ∷ [])) ≡ half (length L)
    same = ap half (length_push L (OfMid (Batch es))) ∙ cond-false (odd (length L)) (suc (half (length L))) (half (length L)) even

-- A VERDICT

told_kept : {B : Type 0} (P : Server B) (w : Want) (k : ℕ) (e : Ending) (text : List ℕ) → ToldOne P w k e
    → kept_by e ≡ Some text → P.replies w.client w.seq ≡ Some text
told_kept P w k (Reply x) text t e = t ∙ e
told_kept P w k (Call v stage x) text t e = absurd (cc)

finished_tables : {B : Type 0} (m : Service B) (O P : Server B) (T : Tables) (ws : List Want) (J : List Seg)
    (order : List ℕ) → Mirrors m (settled T ws (finish m.programs J order T.store)) P → TablesOk O T → Kept O P
    → Distinct ws → length ws ≡ length (finish m.programs J order T.store).ends
    → ToldAll P (acts T.next ws (finish m.programs J order T.store).ends) → TablesOk P (settled T ws (finish m.programs J order T.store))
finished_tables {B} m O P T ws J order k t g d l told = record {
  kept = λ c text e. kept c text e (find_client c ws);
  parked = λ i p e. (k.parked i p e).0;
}
  where
    kept : (c : ℕ) (text : List ℕ) → kept_of (kept_after ws (finish m.programs J order T.store).ends T.kept) c
        ≡ Some text → ((i : ℕ) × (w : Want) × (slice_get ws i ≡ Some w) × (w.client ≡ c)) ⊎ NoneOf c ws
        → P.replies c (last_of (last_after ws T.last) c) ≡ Some text
    kept c text e (inl f) =
        let a = want_acts T.next ws (finish m.programs J order T.store).ends f.0 f.1 l f.2 in
        let same : a.0.want.client ≡ c = ap (λ (z : Want). z.client) a.2 ∙ f.3 in
        let q : kept_by a.0.ending ≡ Some text = sym
        (kept-in T.next ws (finish m.programs J order T.store).ends T.kept f.0 a.0 d a.1)
        ∙ ap (kept_of (kept_after ws (finish m.programs J order T.store).ends T.kept)) same ∙ e in
        let in_ws = (acts_want T.next ws (finish m.programs J order T.store).ends f.0 a.0 a.1).0 in
        subst (λ z. P.replies z (last_of (last_after ws T.last) z) ≡ Some text) same
        (ap (P.replies a.0.want.client) (last-in ws T.last f.0 a.0.want d in_ws)
        ∙ told_kept P a.0.want a.0.num a.0.ending text (told.at f.0 a.0 a.1) q)
    kept c text e (inr n) = ap (P.replies c) (last-out ws T.last c n)
        ∙ g.replies c (last_of T.last c) text
        (t.kept c text (sym (kept-out ws (finish m.programs J order T.store).ends T.kept c n) ∙ e))

-- at tables T that the server mirrors
fact_at : {B : Type 0} (m : Service B) (O : Server B) (T : Tables) (es : List Entry) (J : List Seg) (order : List ℕ)
    → Mirrors m T O → TablesOk O T → job_of O.served (wants m.programs T es) ≡ Some J → is_order (length J) order ≡ true
    → (s : Store) → s ≡ O.store
    → (P : Server B) → RoundDone m O T.next (wants m.programs T es) J order O
    (steps_by (wants m.programs T es) (numbers T.next (ends_of m J order O.store)) order)
    → P ≡ server_from m O (steps_by (wants m.programs T es) (numbers T.next (ends_of m J order O.store)) order)
    → (Mirrors m (settled T (wants m.programs T es) (finish m.programs J order T.store)) P) × Kept O P
    × (P.served ≡ O.served) × (P.backs ≡ O.backs)
    × ToldAll P (acts T.next (wants m.programs T es) (finish m.programs J order T.store).ends)
    × TablesOk P (settled T (wants m.programs T es) (finish m.programs J order T.store))
fact_at {B} m O T es J order k t e o s se P d pe = (
  mirrors,
  kept,
  ap (λ (z : Server B). z.served) pe ∙ d.there.served,
  ap (λ (z : Server B). z.backs) pe ∙ d.there.backs,
  told,
  finished_tables m O P T (wants m.programs T es) J order mirrors t kept g.distinct
      (omega (
        arith,
        job-length O.served (wants m.programs T es) J e,
        length-tabulate (length J) (serial_end m.programs J order T.store),
      )) told,
)
  where
    g : Setting m O T.next (wants m.programs T es) J order
    g = setting m T O es J order k e o

    mirrors : Mirrors m (settled T (wants m.programs T es) (finish m.programs J order T.store)) P
    mirrors = subst (λ z. Mirrors m (settled T (wants m.programs T es) (finish m.programs J order z)) P) k.store
        (subst (λ z. Mirrors m (settled T (wants m.programs T es) (finish m.programs J order O.store)) z) (sym pe)
        (mirrors_kept m T O es J order _ k g d.there d.bounded))

    kept : Kept O P
    kept = subst (Kept O) (sym pe) d.there.kept

    told_here : (i : ℕ) (a : Act) → slice_get (acts T.next (wants m.programs T es) (ends_of m J order O.store)) i ≡ Some a → ToldOne P a.want a.num a.ending
    told_here i a f =
        let l : i < length (wants m.programs T es) = slice_get_within (wants m.programs T es) i a.want
        (acts_want T.next (wants m.programs T es) (ends_of m J order O.store) i a f).0 in
        let once : times i order ≡ 1 = once-at (length J) i order (omega (arith, job-length O.served (wants m.programs T es) J e)) g.once in
        subst (λ z. ToldOne z a.want a.num a.ending) (sym pe) (d.there.ended i a f (omega arith)).2

    told : ToldAll P (acts T.next (wants m.programs T es) (finish m.programs J order T.store).ends)
    told = subst (λ z. ToldAll P (acts T.next (wants m.programs T es) (ends_of m J order z))) k.store (record { at = told_here })

verdict_end : (L : List AnyValue) (v : Verdict) → odd (length L) ≡ true → verdict_at (L ++ OfMid (Decided v) ∷ []) (half (length L)) ≡ Some v
verdict_end L v o =
    let h : length L ≡ 2 * half (length L) + 1 = half-is (length L) ∙ cond-true (odd (length L)) (2 * half (length L) + 1) (2 * half (length L)) o in
    ap verdict_in (subst (λ z. slice_get (L ++ OfMid (Decided v) ∷ []) z ≡ Some (OfMid (Decided v))) h (get_end L (OfMid (Decided v))))

record AtRound {B : Type 0} (m : Service B) (D : ℕ) (L : List AnyValue) (O : Server B) (T : Tables) (es : List Entry)
    (J : List Seg) (v : Verdict) : Type 0 where
  at_odd : odd (length L) ≡ true
  is_round : round m.programs D L O.served (half (length L)) ≡ Some (record { tables = T; wants = wants m.programs T es; job = J })
  is_job : job_of O.served (wants m.programs T es) ≡ Some J
  is_ordered : is_order (length J) (order_in (length J) v) ≡ true

ledger_round : {B : Type 0} (m : Service B) (D : ℕ) (L : List AnyValue) (K : Tier → List AnyValue) (h : History_)
    (v : Verdict) (g : Ledger m D L K h) (es : List Entry) (J : List Seg) → AtRound m D L (server m h) g.tables es J v
    → Extended m D h (L ++ OfMid (Decided v) ∷ []) K
    (h ++ steps_by (wants m.programs g.tables es)
    (numbers g.tables.next (ends_of m J (order_in (length J) v) (server m h).store)) (order_in (length J) v))
ledger_round {B} m D L K h v g es J a = record {
  kept = f.1;
  ledger = record {
    legal = legal-append m (empty_server m) h ks g.legal d.legal;
    tables = settled T ws (finish m.programs J order T.store);
    is_after = rw half_next after_next;
    mirrors = f.0;
    tables_ok = f.5;
    decided = λ r l. decided r (cases_eq r (half (length L))) (subst (λ z. r < z) half_next l);
    served = λ t n. ap (λ (A : Answers). A t n) f.2 ∙ g.served t n;
    backs = λ t. ap (λ (b : Tier → B). b t) f.3 ∙ g.backs t;
    settles = g.settles;
  };
}
  where
    O : Server B
    O = server m h

    T : Tables
    T = g.tables

    ws : List Want
    ws = wants m.programs g.tables es

    order : List ℕ
    order = order_in (length J) v

    ks : History_
    ks = steps_by (wants m.programs g.tables es) (numbers g.tables.next (ends_of m J (order_in (length J) v) (server m h).store)) (order_in (length J) v)

    P : Server B
    P = server m (h ++ ks)

    d : RoundDone m (server m h) g.tables.next (wants m.programs g.tables es) J (order_in (length J) v) (server m h) ks
    d = round_legal m O T.next ws J order (setting m T O es J order g.mirrors a.is_job a.is_ordered) g.mirrors.bounded

    f : (Mirrors m (settled T ws (finish m.programs J order T.store)) P) × Kept O P × (P.served ≡ O.served)
        × (P.backs ≡ O.backs) × ToldAll P (acts T.next ws (finish m.programs J order T.store).ends)
        × TablesOk P (settled T ws (finish m.programs J order T.store))
    f = fact_at m O T es J order g.mirrors g.tables_ok a.is_job a.is_ordered O.store refl P d (server-append m (empty_server m) h ks)

    half_next : half (length (L ++ OfMid (Decided v) ∷ [])) ≡ suc (half (length L))
    half_next = ap half (length_push L (OfMid (Decided v))) ∙ cond-true (odd (length L)) (suc (half (length L))) (half (length L)) a.at_odd

    more : MoreLog L (L ++ OfMid (Decided v) ∷ [])
    more = more-push L (OfMid (Decided v))

    round_next : round m.programs D (L ++ OfMid (Decided v) ∷ []) P.served (half (length L)) ≡ Some (record { tables = T; wants = ws; job = J })
    round_next = round-more m D L (L ++ OfMid (Decided v) ∷ []) O.served P.served (half (length L))
        (record { tables = T; wants = ws; job = J }) more (answers-kept O P f.1) a.is_round

    after_next : after m.programs D (L ++ OfMid (Decided v) ∷ []) P.served (suc (half (length L))) ≡ Some (settled T ws (finish m.programs J order T.store))
    after_next = after-step m D (L ++ OfMid (Decided v) ∷ []) P.served (half (length L))
        (record { tables = T; wants = ws; job = J }) v (settled T ws (finish m.programs J order T.store)) round_next
        (verdict_end L v a.at_odd)
        (cond-true (is_order (length J) order) (Some (settled T ws (finish m.programs J order T.store))) None a.is_ordered)

    decided : (r : ℕ) → (r ≡ half (length L)) ⊎ (r ≡ half (length L) → ⊥) → r < suc (half (length L)) → Decision m D (L ++ OfMid (Decided v) ∷ []) P r
    decided r (inr ne) l = decision-more m D L (L ++ OfMid (Decided v) ∷ []) O P r more f.1 (g.decided r (omega arith))
    decided r (inl e) l = subst (Decision m D (L ++ OfMid (Decided v) ∷ []) P) (sym e) (record {
      made = record { tables = T; wants = ws; job = J };
      verdict = v;
      is_round = round_next;
      is_verdict = verdict_end L v a.at_odd;
      is_ordered = a.is_ordered;
      told = f.4;
      tables = f.5;
    })

-- the verdict of the next round, in an order of its job
pub ledger_verdict : {B : Type 0} (m : Service B) (D : ℕ) (L : List AnyValue) (K : Tier → List AnyValue) (h : History_)
    (v : Verdict) (R : Round) → odd (length L) ≡ true
    → round m.programs D L (server m h).served (half (length L)) ≡ Some R → is_order (length R.job) (ordered R v) ≡ true → Ledger m D L K h
    → Extended m D h (L ++ OfMid (Decided v) ∷ []) K (h ++ verdict_steps m.programs (round m.programs D L (server m h).served (half (length L))) v)
ledger_verdict {B} m D L K h v R o e q g = subst (λ z. Extended m D h (L ++ OfMid (Decided v) ∷ []) K (h ++ z))
    (sym steps) (ledger_round m D L K h v g p.batch R.job a)
  where
    c : (T : Tables) × (after m.programs D L (server m h).served (half (length L)) ≡ Some T)
        × (round_at m.programs L (server m h).served (half (length L)) T ≡ Some R)
    c = then_parts (after m.programs D L (server m h).served (half (length L))) (round_at m.programs L (server m h).served (half (length L))) R e

    same_tables : c.0 ≡ g.tables
    same_tables = let x = c.1 in let y = g.is_after in cc

    p : RoundParts m L (server m h).served (half (length L)) g.tables R
    p = round_parts m L (server m h).served (half (length L)) g.tables R
        (subst (λ z. round_at m.programs L (server m h).served (half (length L)) z ≡ Some R) same_tables c.2)

    same : R ≡ record { tables = g.tables; wants = wants m.programs g.tables p.batch; job = R.job }
    same = λ i. record { tables = p.is_tables i; wants = p.is_wants i; job = R.job }

    a : AtRound m D L (server m h) g.tables p.batch R.job v
    a = record { at_odd = o; is_round = e ∙ ap Some same; is_job = p.is_job; is_ordered = q }

    steps : verdict_steps m.programs (round m.programs D L (server m h).served (half (length L))) v
        ≡ steps_by (wants m.programs g.tables p.batch)
        (numbers g.tables.next (ends_of m R.job (order_in (length R.job) v) (server m h).store)) (order_in (length R.job) v)
    steps = ap (λ z. verdict_steps m.programs z v) (e ∙ ap Some same)
        ∙ cond-true (is_order (length R.job) (ordered R v))
        (steps_by (wants m.programs g.tables p.batch)
        (numbers g.tables.next (ends_of m R.job (ordered R v) g.tables.store)) (ordered R v)) ((Serve Inv 0, []) ∷ []) q
        ∙ ap (λ z. steps_by (wants m.programs g.tables p.batch) (numbers g.tables.next (ends_of m R.job (ordered R v) z)) (ordered R v)) (sym g.mirrors.store)

pub extend_batch : {B : Type 0} (m : Service B) (D : ℕ) (L : List AnyValue) (K : Tier → List AnyValue) (h : History_)
    (es : List Entry) → odd (length L) ≡ false → Ledger m D L K h → Extended m D h (L ++ OfMid (Batch es) ∷ []) K (h ++ [])
extend_batch m D L K h es e g = subst (λ z. Extended m D h (L ++ OfMid (Batch es) ∷ []) K z) (sym (append-nil h))
    (record { ledger = ledger_batch m D L K h es e g; kept = kept-refl (server m h) })
