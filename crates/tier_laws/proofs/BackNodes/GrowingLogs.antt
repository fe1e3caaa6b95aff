-- A backend's log grows.
use Rattle.std.proofs.Common.{◌≡◌, ℕ, ◌<◌, Bool, true, false, cond, List, [], ◌∷◌, ◌++◌, length, refl, sym, ap, ◌∙◌, subst, inl, inr, Option, Some, None, arith}
use Rattle.std.specs.Prelude.{slice_get, ◌⊎◌, ◌==◌, ◌||◌, take}
use Rattle.std.proofs.lemmas.Bool.{eq-eqb, ne_eqb, cond-true, cond-false, cases_eq, or_left}
use Rattle.std.proofs.lemmas.List.{append-nil, take-append-le}
use Rattle.std.proofs.lemmas.Option.{slice_get_within}
use Rattle.std.proofs.Math.Seq.{take-append_seam}
use Rattle.aeg_base.specs.declared.names.Tier.{Tier}
use Rattle.run_model.specs.Histories.{put}
use Rattle.log_values.specs.declared.any_value.AnyValue.{AnyValue}
use Rattle.log_values.specs.declared.any_value.AnyValue.TheVariants.{Back as OfBack, Mid as OfMid}
use Rattle.aeg_base.specs.declared.names.Tier.TheVariants.{Mid as MidTier, Inv, Pay}
use Rattle.log_values.specs.declared.back_value.BackValue.TheVariants.{Call as Called, Settle as Settled}
use Rattle.round_model.specs.After.{after}
use Rattle.round_model.specs.Lists.{half, is_some}
use Rattle.round_model.specs.Service.{Service}
use Rattle.round_model.specs.Tables.{Tables, tables0}
use Rattle.run_model.specs.Histories.{BackRun, back_from, back_run, back_serve, back_steps, back_value, is_called}
use Rattle.run_model.specs.World.{put_tier}
use Rattle.server_model.specs.Backends.{Served as Coded}
use Rattle.server_model.specs.History.{History as History_}
use Rattle.server_model.specs.Server.{same_tier}
use Rattle.server_model.specs.declared.history.Hist.TheVariants.{Serve}
use Rattle.tier_laws.proofs.Lists.ItemsByIndex.{put_here, put_there, tier_here, tier_there, by_tier, get_push}
use Rattle.tier_laws.proofs.Server.GrowingHistory.{Decision, Extended, Ledger, TablesOk, answers-kept, decision-more, legal-append, server-append, tables-kept}
use Rattle.tier_laws.proofs.Server.MirroredTables.{Mirrors}
use Rattle.tier_laws.proofs.Rounds.AnyOrder.{Kept, number_cases, kept-refl}
use Rattle.tier_laws.proofs.Rounds.StableRounds.{after-more}
use Rattle.tier_laws.proofs.Server.LookUps.{IsDone, Server, coded, empty_server, put_number, result_or, server, step}
use Rattle.tier_laws.proofs.Server.LookUps.Result.{Done}

pub back-append : {B : Type 0} (m : Service B) (t : Tier) (R : BackRun B) (vs : List AnyValue) (v : AnyValue)
    → back_from (m.backend t) R (vs ++ v ∷ []) ≡ back_value (m.backend t) (back_from (m.backend t) R vs) v
back-append m t R [] v = refl
back-append m t R (w ∷ vs) v = back-append m t (back_value (m.backend t) R w) vs v

pub back-push : {B : Type 0} (m : Service B) (t : Tier) (vs : List AnyValue) (v : AnyValue)
    → back_run (m.backend t) (vs ++ v ∷ []) ≡ back_value (m.backend t) (back_run (m.backend t) vs) v
back-push m t vs v = back-append m t _ vs v

-- a code stays
pub value-keeps : {B : Type 0} (m : Service B) (t : Tier) (R : BackRun B) (v : AnyValue) (n code : ℕ)
    → R.code n ≡ Some code → (back_value (m.backend t) R v).code n ≡ Some code
value-keeps m t R (OfBack (Settled g)) n code e = e
value-keeps m t R (OfMid v) n code e = e
value-keeps {B} m t R (OfBack (Called k text)) n code e = go (R.code k) refl
  where
    go : (o : Option ℕ) → R.code k ≡ o → (cond (is_some (R.code k)) R (back_serve (m.backend t) R k text)).code n ≡ Some code
    go (Some x) f = rw f e
    go None f = rw f (away (cases_eq n k))
      where
        away : (n ≡ k) ⊎ (n ≡ k → ⊥) → (back_serve (m.backend t) R k text).code n ≡ Some code
        away (inl g) = absurd (let h : R.code k ≡ Some code = subst (λ z. R.code z ≡ Some code) g e in cc)
        away (inr g) = put_there R.code k _ n g ∙ e

pub run-keeps : {B : Type 0} (m : Service B) (t : Tier) (R : BackRun B) (vs : List AnyValue) (n code : ℕ)
    → R.code n ≡ Some code → (back_from (m.backend t) R vs).code n ≡ Some code
run-keeps m t R [] n code e = e
run-keeps m t R (v ∷ vs) n code e = run-keeps m t (back_value (m.backend t) R v) vs n code (value-keeps m t R v n code e)

-- a number has a code exactly where it was called
pub called-code : {B : Type 0} (m : Service B) (t : Tier) (R : BackRun B) (vs : List AnyValue) (n : ℕ)
    → is_some ((back_from (m.backend t) R vs).code n) ≡ (is_some (R.code n) || is_called n vs)
called-code m t R [] n = go (is_some (R.code n))
  where
    go : (b : Bool) → b ≡ (b || false)
    go true = refl
    go false = refl
called-code m t R (OfBack (Settled g) ∷ vs) n = called-code m t R vs n
called-code m t R (OfMid v ∷ vs) n = called-code m t R vs n
called-code {B} m t R (OfBack (Called k text) ∷ vs) n = called-code m t
    (back_value (m.backend t) R (OfBack (Called k text))) vs n ∙ go (R.code k) refl (cases_eq k n)
  where
    go : (o : Option ℕ) → R.code k ≡ o → (k ≡ n) ⊎ (k ≡ n → ⊥)
        → (is_some ((cond (is_some (R.code k)) R (back_serve (m.backend t) R k text)).code n) || is_called n vs)
        ≡ (is_some (R.code n) || cond (k == n) true (is_called n vs))
    go (Some x) f (inl e) =
        let some : is_some (R.code n) ≡ true = subst (λ z. is_some (R.code z) ≡ true) e (rw f refl) in
        rw f (or_left (is_some (R.code n)) (is_called n vs) some ∙ sym (or_left (is_some (R.code n)) _ some))
    go (Some x) f (inr e) = rw f (ap (λ z. is_some (R.code n) || z) (sym (cond-false (k == n) true (is_called n vs) (ne_eqb k n e))))
    go None f (inl e) =
        let some : is_some ((back_serve (m.backend t) R k text).code n) ≡ true = subst
        (λ z. is_some ((back_serve (m.backend t) R k text).code z) ≡ true) e (ap is_some (put_here R.code k _)) in
        let none : R.code n ≡ None = subst (λ z. R.code z ≡ None) e f in
        rw f (or_left (is_some ((back_serve (m.backend t) R k text).code n)) (is_called n vs) some
        ∙ sym (rw none (cond-true (k == n) true (is_called n vs) (eq-eqb k n e))))
    go None f (inr e) =
        rw f (ap (λ z. is_some z || is_called n vs) (put_there R.code k _ n (λ g. e (sym g)))
        ∙ ap (λ z. is_some (R.code n) || z) (sym (cond-false (k == n) true (is_called n vs) (ne_eqb k n e))))

-- what a longer log keeps of its settled floors
abbrev SettlesIn : {B : Type 0} → Service B → Tier → List AnyValue → Type 0
SettlesIn m t vs = (i g n : ℕ) → slice_get vs i ≡ Some (OfBack (Settled g)) → 0 < n → n < g → (code : ℕ)
    × ((back_run (m.backend t) (take i vs)).code n ≡ Some code)

settles-push : {B : Type 0} (m : Service B) (t : Tier) (vs : List AnyValue) (v : AnyValue) → SettlesIn m t vs
    → ((g n : ℕ) → v ≡ OfBack (Settled g) → 0 < n → n < g → (code : ℕ)
    × ((back_run (m.backend t) vs).code n ≡ Some code)) → SettlesIn m t (vs ++ v ∷ [])
settles-push m t vs v k f i g n e a b = go (get_push vs v i (OfBack (Settled g)) e)
  where
    go : (slice_get vs i ≡ Some (OfBack (Settled g))) ⊎ ((i ≡ length vs) × (v ≡ OfBack (Settled g))) → (code : ℕ)
        × ((back_run (m.backend t) (take i (vs ++ v ∷ []))).code n ≡ Some code)
    go (inl h) = rw (take-append-le i vs (v ∷ []) (omega (arith, slice_get_within vs i (OfBack (Settled g)) h))) (k i g n h a b)
    go (inr h) =
        let same : take i (vs ++ v ∷ []) ≡ vs = ap (λ z. take z (vs ++ v ∷ [])) h.0 ∙ take-append_seam vs (v ∷ []) in
        rw same (f g n h.1 a b)

-- a value that the history has nothing of
ledger_quiet : {B : Type 0} (m : Service B) (D : ℕ) (L : List AnyValue) (K : Tier → List AnyValue) (h : History_)
    (t : Tier) (v : AnyValue) (g : Ledger m D L K h) → back_value (m.backend t) (back_run (m.backend t) (K t)) v
    ≡ back_run (m.backend t) (K t)
    → ((f n : ℕ) → v ≡ OfBack (Settled f) → 0 < n → n < f → (code : ℕ)
    × ((back_run (m.backend t) (K t)).code n ≡ Some code)) → Ledger m D L (put_tier K t (K t ++ v ∷ [])) h
ledger_quiet {B} m D L K h t v g same f = record {
  legal = g.legal;
  tables = g.tables;
  is_after = g.is_after;
  mirrors = g.mirrors;
  tables_ok = g.tables_ok;
  decided = g.decided;
  served = by_tier (λ w vs. (n : ℕ) → (server m h).served w n ≡ (back_run (m.backend w) vs).code n) K t (K t ++ v ∷ [])
      (λ n. g.served t n ∙ ap (λ (R : BackRun B). R.code n) (sym (back-push m t (K t) v ∙ same))) (λ w e. g.served w);
  backs = by_tier (λ w vs. (server m h).backs w ≡ (back_run (m.backend w) vs).state) K t (K t ++ v ∷ []) (g.backs t
      ∙ ap (λ (R : BackRun B). R.state) (sym (back-push m t (K t) v ∙ same))) (λ w e. g.backs w);
  settles = by_tier (λ w vs. SettlesIn m w vs) K t (K t ++ v ∷ []) (settles-push m t (K t) v (g.settles t) f) (λ w e. g.settles w);
}

serve_done : {B : Type 0} (m : Service B) (O : Server B) (t : Tier) (n : ℕ) (text : List ℕ)
    → same_tier t MidTier ≡ false → O.calls t n ≡ Some text → O.served t n ≡ None
    → step m O (Serve t n, []) ≡ Done (coded O t n ((m.backend t).serve (O.backs t) text))
serve_done m O MidTier n text b e f = absurd (cc)
serve_done m O Inv n text b e f = rw (e, f) refl
serve_done m O Pay n text b e f = rw (e, f) refl

coded_kept : {B : Type 0} (O : Server B) (t : Tier) (n : ℕ) (b : Coded B) → O.served t n ≡ None → Kept O (coded O t n b)
coded_kept {B} O t n b e = record {
  calls = λ v k text f. f;
  replies = λ c s text f. f;
  served = λ v k code f. served v k code f (number_cases O.served t n (Some b.code) v k);
}
  where
    served : (v : Tier) (k code : ℕ) → O.served v k ≡ Some code → ((v ≡ t) × (k ≡ n))
        ⊎ (put_number O.served t n (Some b.code) v k ≡ O.served v k) → put_number O.served t n (Some b.code) v k ≡ Some code
    served v k code f (inl p) = absurd (let g : O.served t n
        ≡ Some code = subst (λ z. O.served t z ≡ Some code) p.1 (subst (λ z. O.served z k ≡ Some code) p.0 f) in cc)
    served v k code f (inr p) = p ∙ f

coded_mirrors : {B : Type 0} (m : Service B) (T : Tables) (O : Server B) (t : Tier) (n : ℕ) (b : Coded B) → Mirrors m T O → Mirrors m T (coded O t n b)
coded_mirrors m T O t n b k = record {
  store = k.store;
  last = k.last;
  progress = k.progress;
  calls = k.calls;
  parked = k.parked;
  one = k.one;
  first = k.first;
  bounded = record { low = k.bounded.low; ended = k.bounded.ended };
}

-- a call that is served
ledger_served : {B : Type 0} (m : Service B) (D : ℕ) (L : List AnyValue) (K : Tier → List AnyValue) (h : History_)
    (t : Tier) (n : ℕ) (text : List ℕ) (g : Ledger m D L K h) → same_tier t MidTier ≡ false
    → (server m h).calls t n ≡ Some text → (back_run (m.backend t) (K t)).code n ≡ None
    → Extended m D h L (put_tier K t (K t ++ OfBack (Called n text) ∷ [])) (h ++ (Serve t n, []) ∷ [])
ledger_served {B} m D L K h t n text g b c none = record {
  kept = subst (Kept (server m h)) (sym next) kept;
  ledger = record {
    legal = legal-append m (empty_server m) h ((Serve t n, []) ∷ []) g.legal (subst (λ z. IsDone z × Unit {0}) (sym done) (tt, tt));
    tables = g.tables;
    is_after = subst (λ (z : Server B). after m.programs D L z.served (half (length L)) ≡ Some g.tables) (sym next)
        (after-more m D L L O.served new.served (half (length L)) g.tables (record { at = λ i v e. e })
        (answers-kept O new kept) g.is_after);
    mirrors = subst (Mirrors m g.tables) (sym next) (coded_mirrors m g.tables O t n ((m.backend t).serve (O.backs t) text) g.mirrors);
    tables_ok = subst (λ z. TablesOk z g.tables) (sym next) (tables-kept O new g.tables kept g.tables_ok);
    decided = λ r l. subst (λ z. Decision m D L z r) (sym next) (decision-more m D L L O new r (record { at = λ i v e. e }) kept (g.decided r l));
    served = by_tier (λ w vs. (k : ℕ) → (server m (h ++ (Serve t n, []) ∷ [])).served w k
        ≡ (back_run (m.backend w) vs).code k) K t (K t ++ OfBack (Called n text) ∷ [])
        (λ k. ap (λ (z : Server B). z.served t k) next
        ∙ ap (λ (f : ℕ → Option ℕ). f k)
        (tier_here O.served t (put (O.served t) n (Some ((m.backend t).serve (O.backs t) text).code)))
        ∙ here k (cases_eq k n) ∙ ap (λ (R : BackRun B). R.code k) (sym pushed))
        (λ w e k. ap (λ (z : Server B). z.served w k) next ∙ ap (λ (f : ℕ → Option ℕ). f k) (tier_there O.served t _ w e) ∙ g.served w k);
    backs = by_tier (λ w vs. (server m (h ++ (Serve t n, []) ∷ [])).backs w ≡ (back_run (m.backend w) vs).state) K t (K t ++ OfBack (Called n text) ∷ [])
        (ap (λ (z : Server B). z.backs t) next ∙ tier_here O.backs t ((m.backend t).serve (O.backs t) text).state
        ∙ ap (λ b. ((m.backend t).serve b text).state) (g.backs t) ∙ ap (λ (R : BackRun B). R.state) (sym pushed))
        (λ w e. ap (λ (z : Server B). z.backs w) next ∙ tier_there O.backs t _ w e ∙ g.backs w);
    settles = by_tier (λ w vs. SettlesIn m w vs) K t (K t ++ OfBack (Called n text) ∷ [])
        (settles-push m t (K t) (OfBack (Called n text)) (g.settles t) (λ f k e. absurd (cc))) (λ w e. g.settles w);
  };
}
  where
    O : Server B
    O = server m h

    new : Server B
    new = coded (server m h) t n ((m.backend t).serve ((server m h).backs t) text)

    served_none : O.served t n ≡ None
    served_none = g.served t n ∙ none

    kept : Kept O new
    kept = coded_kept O t n ((m.backend t).serve (O.backs t) text) served_none

    done : step m O (Serve t n, []) ≡ Done new
    done = serve_done m O t n text b c served_none

    next : server m (h ++ (Serve t n, []) ∷ []) ≡ new
    next = server-append m (empty_server m) h ((Serve t n, []) ∷ []) ∙ ap (result_or O) done

    pushed : back_run (m.backend t) (K t ++ OfBack (Called n text) ∷ []) ≡ back_serve (m.backend t) (back_run (m.backend t) (K t)) n text
    pushed = back-push m t (K t) (OfBack (Called n text))
        ∙ ap (λ z. cond (is_some z) (back_run (m.backend t) (K t))
        (back_serve (m.backend t) (back_run (m.backend t) (K t)) n text)) none

    here : (k : ℕ) → (k ≡ n) ⊎ (k ≡ n → ⊥) → put (O.served t) n (Some ((m.backend t).serve (O.backs t) text).code) k
        ≡ put (back_run (m.backend t) (K t)).code n (Some ((m.backend t).serve (back_run (m.backend t) (K t)).state text).code) k
    here k (inl e) = ap (put (O.served t) n (Some ((m.backend t).serve (O.backs t) text).code)) e
        ∙ put_here (O.served t) n _ ∙ ap (λ b. Some ((m.backend t).serve b text).code) (g.backs t)
        ∙ sym (ap (put (back_run (m.backend t) (K t)).code n
        (Some ((m.backend t).serve (back_run (m.backend t) (K t)).state text).code)) e
        ∙ put_here (back_run (m.backend t) (K t)).code n _)
    here k (inr e) = put_there (O.served t) n _ k e ∙ g.served t k ∙ sym (put_there (back_run (m.backend t) (K t)).code n _ k e)

code_cases : (o : Option ℕ) (b : Bool) → is_some o ≡ b → ((b ≡ true) × ((code : ℕ) × (o ≡ Some code))) ⊎ ((b ≡ false) × (o ≡ None))
code_cases None b e = inr (sym e, refl)
code_cases (Some c) b e = inl (sym e, (c, refl))

pub ledger_called : {B : Type 0} (m : Service B) (D : ℕ) (L : List AnyValue) (K : Tier → List AnyValue) (h : History_)
    (t : Tier) (n : ℕ) (text : List ℕ) → same_tier t MidTier ≡ false → (server m h).calls t n ≡ Some text → Ledger m D L K h
    → Extended m D h L (put_tier K t (K t ++ OfBack (Called n text) ∷ [])) (h ++ back_steps t (K t) (OfBack (Called n text)))
ledger_called {B} m D L K h t n text b c g = go (code_cases ((back_run (m.backend t) (K t)).code n) (is_called n (K t)) (called-code m t _ (K t) n))
  where
    go : ((is_called n (K t) ≡ true) × ((code : ℕ) × ((back_run (m.backend t) (K t)).code n ≡ Some code)))
        ⊎ ((is_called n (K t) ≡ false) × ((back_run (m.backend t) (K t)).code n ≡ None))
        → Extended m D h L (put_tier K t (K t ++ OfBack (Called n text) ∷ [])) (h ++ back_steps t (K t) (OfBack (Called n text)))
    go (inl e) = subst (λ z. Extended m D h L (put_tier K t (K t ++ OfBack (Called n text) ∷ [])) z)
        (sym (ap (λ z. h ++ z) (cond-true (is_called n (K t)) [] ((Serve t n, []) ∷ []) e.0) ∙ append-nil h))
        (record {
          kept = kept-refl (server m h);
          ledger = ledger_quiet m D L K h t (OfBack (Called n text)) g
              (ap (λ z. cond (is_some z) (back_run (m.backend t) (K t))
              (back_serve (m.backend t) (back_run (m.backend t) (K t)) n text)) e.1.1) (λ f k q. absurd (cc));
        })
    go (inr e) = subst (λ z. Extended m D h L (put_tier K t (K t ++ OfBack (Called n text) ∷ [])) z)
        (sym (ap (λ z. h ++ z) (cond-false (is_called n (K t)) [] ((Serve t n, []) ∷ []) e.0)))
        (ledger_served m D L K h t n text g b c e.1)

pub ledger_settled : {B : Type 0} (m : Service B) (D : ℕ) (L : List AnyValue) (K : Tier → List AnyValue) (h : History_)
    (t : Tier) (f : ℕ) → ((n : ℕ) → 0 < n → n < f → (code : ℕ) × ((server m h).served t n ≡ Some code)) → Ledger m D L K h
    → Extended m D h L (put_tier K t (K t ++ OfBack (Settled f) ∷ [])) (h ++ back_steps t (K t) (OfBack (Settled f)))
ledger_settled {B} m D L K h t f k g = subst (λ z. Extended m D h L (put_tier K t (K t ++ OfBack (Settled f) ∷ [])) z)
    (sym (append-nil h))
    (record { kept = kept-refl (server m h); ledger = ledger_quiet m D L K h t (OfBack (Settled f)) g refl all })
  where
    all : (e n : ℕ) → OfBack (Settled f) ≡ OfBack (Settled e) → 0 < n → n < e → (code : ℕ) × ((back_run (m.backend t) (K t)).code n ≡ Some code)
    all e n q a b = let same : f ≡ e = cc in let r = k n a (omega arith) in (r.0, sym (g.served t n) ∙ r.1)

pub ledger_start : {B : Type 0} (m : Service B) (D : ℕ) (ok : Mirrors m (tables0 D) (empty_server m))
    → TablesOk (empty_server m) (tables0 D) → Ledger m D [] (λ t. []) []
ledger_start m D k t = record {
  legal = tt;
  tables = tables0 D;
  is_after = refl;
  mirrors = k;
  tables_ok = t;
  decided = λ r l. absurd (omega arith);
  served = λ t n. refl;
  backs = λ t. refl;
  settles = λ t i g n e. absurd (cc);
}
