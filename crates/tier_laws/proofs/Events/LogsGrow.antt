-- The logs grow, and with them the history.
use Rattle.std.proofs.Common.{◌≡◌, ℕ, ◌*◌, ◌<◌, Bool, true, false, cond, List, [], ◌∷◌, ◌++◌, length, map, refl, sym}
use Rattle.std.proofs.Common.{ap, ◌∙◌, subst, inl, inr, Option, Some, None, zero, suc}
use Rattle.std.specs.Prelude.{slice_get, ◌⊎◌}
use Rattle.std.proofs.lemmas.Option.{same_Some}
use Rattle.aeg_base.specs.declared.names.Tier.{Tier}
use Rattle.aeg_base.specs.declared.names.Tier.TheVariants.{Inv as InvTier, Pay as PayTier}
use Rattle.log_model.proofs.Invariant.{all_same, soup-refl}
use Rattle.log_model.specs.Chosen.{Meets, chosen_among}
use Rattle.log_model.specs.declared.fact.Fact.{Fact as LogFact}
use Rattle.log_values.specs.declared.any_value.AnyValue.{AnyValue}
use Rattle.log_values.specs.declared.any_value.AnyValue.TheVariants.{Back as OfBack, Mid as OfMid}
use Rattle.log_values.specs.declared.back_value.BackValue.TheVariants.{Call as Called, Settle as Settled}
use Rattle.log_values.specs.declared.entry.Entry.{Entry}
use Rattle.log_values.specs.declared.mid_value.MidValue.TheVariants.{Batch, Verdict as Decided}
use Rattle.log_values.specs.declared.mid_value.Verdict.{Verdict}
use Rattle.log_values.specs.declared.mid_value.Verdict.TheVariants.{Commit, Serial}
use Rattle.round_model.specs.After.{Round, after, batch_in, round_at}
use Rattle.tier_laws.proofs.MidNodes.CodesOfFacts.{Code}
use Rattle.round_model.specs.Lists.{at, half, head_of}
use Rattle.round_model.specs.Service.{finish, is_order}
use Rattle.round_model.specs.Tables.{Number, Tables, Want, fresh_of, numbers, resumed, started, wants}
use Rattle.run_model.specs.Histories.{back_steps, is_called, step_of, steps_by, value_steps, verdict_steps}
use Rattle.svc_api.proofs.Orders.{job_order}
use Rattle.run_model.specs.Runs.{chosen_next, grown, grows, grows_at, steps_at}
use Rattle.run_model.specs.World.{Config, World, put_tier}
use Rattle.server_model.specs.History.{History as History_}
use Rattle.server_model.specs.Server.{same_tier}
use Rattle.server_model.specs.declared.history.Hist.{Hist}
use Rattle.server_model.specs.declared.history.Hist.TheVariants.{Resume, Serve, Start}
use Rattle.tier_laws.proofs.Lists.ItemsByIndex.{tier_here, tier_there, get_cases, by_tier, get_map}
use Rattle.tier_laws.proofs.BackNodes.GrowingLogs.{ledger_called, ledger_settled}
use Rattle.tier_laws.proofs.Events.OneNodeChanges.{AllCodes, AllFacts, Core, Inv as WorldOk, Mid_event, back_logs, node-more, past}
use Rattle.tier_laws.proofs.Server.GrowingHistory.{Extended, Ledger, extend_batch, ledger_verdict, more-push, ordered}
use Rattle.tier_laws.proofs.Events.OneTiersLog.{Complete, LogPart, Nearly, chosen_now, grow_none, grow_some, log_weaker, meets_good, part_some}
use Rattle.tier_laws.proofs.Events.GrowingPast.{BackOk, BatchOk, Grows, MidOk, Past, Submitted, ValueOk, VerdictBy, more-refl}
use Rattle.tier_laws.proofs.Events.GrowingPast.{parcels-more, run_ok-more, submitted-more, value_ok-more}
use Rattle.tier_laws.proofs.Rounds.AnyOrder.{Kept}
use Rattle.tier_laws.proofs.Rounds.StableRounds.{MoreLog, RoundParts, batch_in-some, round_parts, then_parts}
use Rattle.tier_laws.proofs.Rounds.WantsDiffer.{fresh-at}
use Rattle.tier_laws.proofs.Server.LookUps.{server}
use Rattle.aeg_base.specs.declared.names.Tier.TheVariants.{Mid as MidTier}
use Rattle.aeg_base.specs.declared.names.ReqId.{ReqId}
use Rattle.run_model.specs.Runs.{served_of}
use Rattle.run_model.specs.Histories.{HistoryStep}
use Rattle.tier_laws.proofs.Server.ShownLists.{shown}
use Rattle.run_model.specs.Runs.{log_soup}

-- A VERDICT'S ORDER IS ONE OF THE JOB

pub is_ordered : {B : Type 0} (c : Config B) (P : Past B) (r : ℕ) (R : Round) (v : Verdict) → VerdictBy c P r R v → is_order (length R.job) (ordered R v) ≡ true
is_ordered c P r R (Commit o order) k = k.0
is_ordered c P r R Serial k = job_order (length R.job)

-- LONGER LOGS AND A LONGER HISTORY

abbrev longer : {B : Type 0} → World B → (Tier → List AnyValue) → History_ → World B
longer w K h = record w { logs = K; hist = h }

grows_to : {B : Type 0} (c : Config B) (w : World B) (codes : AllCodes) (K : Tier → List AnyValue) (h : History_)
    → MoreLog (w.logs MidTier) (K MidTier) → Kept (server c.service w.hist) (server c.service h)
    → Grows (past c w codes) (past c (longer w K h) codes)
grows_to c w codes K h l k = record { held = λ x t n e. e; log = l; kept = k; runs = more-refl w.runs; submitted = more-refl w.submitted }

core_longer : {B : Type 0} (c : Config B) (w : World B) (codes : AllCodes) (g : AllFacts) (K : Tier
    → List AnyValue) (h : History_) → Core c w codes g → Grows (past c w codes) (past c (longer w K h) codes)
    → Ledger c.service c.depth (K MidTier) (back_logs K) h → ((t : Tier) → LogPart c.u (g t) (log_soup t w.soup) (K t) (ValueOk c (past c w codes) t))
    → ((j n : ℕ) (who : ReqId) (body : List ℕ) → slice_get h j ≡ Some (Start who n, body)
    → Submitted (past c w codes) (record { client = who.client; seq = who.seq; body = body })) → Core c (longer w K h) codes g
core_longer {B} c w codes g K h i gr ledger logs starts = record {
  laws = i.laws;
  logs = λ t. log_weaker c.u (g t) (log_soup t w.soup) (K t) (ValueOk c P t) (ValueOk c Q t) (λ p v o. value_ok-more c P Q t p v gr o) (logs t);
  ledger = ledger;
  runs = λ j v e. run_ok-more c P Q v gr (i.runs j v e);
  right = λ t x j q e. gr.kept.served q.tier q.num q.code (i.right t x j q e);
  packets = parcels-more c P Q w.soup gr i.packets;
  nodes = λ t x l. node-more c P Q t (g t) (g t) (log_soup t w.soup) (log_soup t w.soup) x (w.nodes t x)
      (w.nodes t x).mode gr (all_same (g t)) (soup-refl c.u (log_soup t w.soup)) refl refl (i.nodes t x l);
  clients = λ y text e. submitted-more P Q _ gr (i.clients y text e);
  starts = λ j n who body e. submitted-more P Q _ gr (starts j n who body e);
  told = λ j e f. gr.kept.replies e.client e.seq e.body (i.told j e f);
}
  where
    P : Past B
    P = past c w codes

    Q : Past B
    Q = past c (longer w K h) codes

-- STARTS WERE SUBMITTED

abbrev StartsIn : {B : Type 0} → Past B → History_ → Type 0
StartsIn P h = (j n : ℕ) (who : ReqId) (body : List ℕ) → slice_get h j ≡ Some (Start who n, body)
    → Submitted P (record { client = who.client; seq = who.seq; body = body })

starts_by : {B : Type 0} (c : Config B) (w : World B) (codes : AllCodes) (h : AllFacts) (ks : History_)
    → Core c w codes h → StartsIn (past c w codes) ks → StartsIn (past c w codes) (w.hist ++ ks)
starts_by {B} c w codes h ks i new j n who body e = go (get_cases w.hist ks j (Start who n, body) e)
  where
    go : (slice_get w.hist j ≡ Some (Start who n, body)) ⊎ ((l : ℕ) × (slice_get ks l ≡ Some (Start who n, body)))
        → Submitted (past c w codes) (record { client = who.client; seq = who.seq; body = body })
    go (inl f) = i.starts j n who body f
    go (inr f) = new f.0 n who body f.1

back_starts : (t : Tier) (vs : List AnyValue) (v : AnyValue) (j n : ℕ) (who : ReqId) (body : List ℕ)
    → slice_get (back_steps t vs v) j ≡ Some (Start who n, body) → ⊥
back_starts t vs (OfMid v) j n who body e = cc
back_starts t vs (OfBack (Settled g)) j n who body e = cc
back_starts t vs (OfBack (Called k text)) j n who body e = go (is_called k vs) j e
  where
    go : (b : Bool) (j : ℕ) → slice_get {X = HistoryStep} (cond b [] ((Serve t k, []) ∷ [])) j ≡ Some (Start who n, body) → ⊥
    go true j f = cc
    go false zero f = let g : Some (Serve t k) ≡ Some (Start who n) = ap first f in cc
      where
        first : Option HistoryStep → Option Hist
        first None = None
        first (Some x) = Some x.0
    go false (suc j) f = cc

-- a step that starts is that of a want that starts
record StartOf (ws : List Want) (y s : ℕ) (body : List ℕ) : Type 0 where
  place : ℕ
  want : Want
  is_want : slice_get ws place ≡ Some want
  none : want.call ≡ None
  client : want.client ≡ y
  seq : want.seq ≡ s
  text : want.body ≡ body

start_parts : (y s k n : ℕ) (text body : List ℕ) (who : ReqId)
    → (◌≡◌ {A = HistoryStep} (Start (record { client = y; seq = s }) k, text) (Start who n, body)) → (y ≡ who.client)
    × (s ≡ who.seq) × (text ≡ body)
start_parts y s k n text body who e = (ap (λ (x : HistoryStep). client_in x.0) e, ap (λ (x : HistoryStep). seq_in x.0) e, ap (λ (x : HistoryStep). x.1) e)
  where
    client_in : Hist → ℕ
    client_in (Start r m) = r.client
    client_in (Serve t m) = 0
    client_in (Resume r m) = 0

    seq_in : Hist → ℕ
    seq_in (Start r m) = r.seq
    seq_in (Serve t m) = 0
    seq_in (Resume r m) = 0

is_start : Hist → Bool
is_start (Start r m) = true
is_start (Serve t m) = false
is_start (Resume r m) = false

step_start : (ws : List Want) (i : ℕ) (o : Option Want) (k n : ℕ) (who : ReqId) (body : List ℕ) → slice_get ws i ≡ o
    → ◌≡◌ {A = HistoryStep} (step_of o k) (Start who n, body) → StartOf ws who.client who.seq body
unfolding is_start
step_start ws i None k n who body e f = absurd (let g : false ≡ true = ap (λ (x : HistoryStep). is_start x.0) f in cc)
step_start ws i (Some w) k n who body e f = go w.call refl f
  where
    go : (q : Option Number) → w.call ≡ q
        → ◌≡◌ {A = HistoryStep}
        (elim q [
          | None ↦ (
            Start (record { client = w.client; seq = w.seq }) k,
            w.body,
          )
          | Some c ↦ (Resume (record { client = w.client; seq = w.seq }) k, [])
        ]) (Start who n, body)
        → StartOf ws who.client who.seq body
    go None g h = let p = start_parts w.client w.seq k n w.body body who h in record {
      place = i;
      want = w;
      is_want = e;
      none = g;
      client = p.0;
      seq = p.1;
      text = p.2;
    }
    go (Some c) g h = absurd (let q : false ≡ true = ap (λ (x : HistoryStep). is_start x.0) h in cc)

steps_start : (ws : List Want) (nums order : List ℕ) (j n : ℕ) (who : ReqId) (body : List ℕ)
    → slice_get (steps_by ws nums order) j ≡ Some (Start who n, body) → StartOf ws who.client who.seq body
steps_start ws nums [] j n who body e = absurd (cc)
steps_start ws nums (i ∷ is) zero n who body e = step_start ws i (slice_get ws i) (at 0 nums i) n who body refl
    (same_Some (step_of (slice_get ws i) (at 0 nums i)) (Start who n, body) e)
steps_start ws nums (i ∷ is) (suc j) n who body e = steps_start ws nums is j n who body e

batch_value : (v : AnyValue) (es : List Entry) → batch_in (Some v) ≡ Some es → v ≡ OfMid (Batch es)
batch_value (OfMid (Batch ds)) es e = let s : ds ≡ es = cc in ap (λ z. OfMid (Batch z)) s
batch_value (OfMid (Decided v)) es e = absurd (cc)
batch_value (OfBack v) es e = absurd (cc)

value_starts : {B : Type 0} (c : Config B) (w : World B) (codes : AllCodes) (h : AllFacts) (v : AnyValue)
    → Core c w codes h → MidOk c (past c w codes) (length (w.logs MidTier)) v
    → StartsIn (past c w codes) (value_steps c.service.programs c.depth (w.logs MidTier) (server c.service w.hist).served v)
unfolding is_start
value_starts c w codes h (OfMid (Batch es)) i o j n who body e = absurd (cc)
value_starts c w codes h (OfBack v) i o j n who body e = absurd o
value_starts {B} c w codes h (OfMid (Decided v)) i o j n who body e = go (is_order (length R.job) (ordered R v))
    (subst (λ z. slice_get (verdict_steps c.service.programs z v) j ≡ Some (Start who n, body)) o.1.is_round e)
  where
    R : Round
    R = o.1.made

    P : Past B
    P = past c w codes

    a : (T : Tables) × (after c.service.programs c.depth (w.logs MidTier) (server c.service w.hist).served
        (half (length (w.logs MidTier))) ≡ Some T)
        × (round_at c.service.programs (w.logs MidTier) (server c.service w.hist).served
        (half (length (w.logs MidTier))) T ≡ Some o.1.made)
    a = then_parts (after c.service.programs c.depth (w.logs MidTier) (server c.service w.hist).served
        (half (length (w.logs MidTier))))
        (round_at c.service.programs (w.logs MidTier) (server c.service w.hist).served (half (length (w.logs MidTier))))
        o.1.made o.1.is_round

    parts : RoundParts c.service (w.logs MidTier) (server c.service w.hist).served (half (length (w.logs MidTier))) a.0 o.1.made
    parts = round_parts c.service (w.logs MidTier) (server c.service w.hist).served (half (length (w.logs MidTier))) a.0 o.1.made a.2

    value : (u : AnyValue) × (slice_get (w.logs MidTier) (2 * half (length (w.logs MidTier))) ≡ Some u) × (batch_in (Some u) ≡ Some parts.batch)
    value = batch_in-some (slice_get (w.logs MidTier) (2 * half (length (w.logs MidTier)))) parts.batch parts.is_batch

    entries : BatchOk P parts.batch
    entries = (subst (MidOk c P (2 * half (length (w.logs MidTier)))) (batch_value value.0 parts.batch value.2)
        (meets_good c.u (h MidTier) (log_soup MidTier w.soup) (w.logs MidTier) (MidOk c P)
        (2 * half (length (w.logs MidTier))) value.0 (i.logs MidTier)
        ((i.logs MidTier).sound (2 * half (length (w.logs MidTier))) value.0 value.1))).1

    from : StartOf (wants c.service.programs a.0 parts.batch) who.client who.seq body → Submitted P (record { client = who.client; seq = who.seq; body = body })
    from q = by (get_cases (map resumed (head_of a.0.queue)) (map started (fresh_of c.service.programs a.0 [] parts.batch)) q.place q.want q.is_want)
      where
        by : (slice_get (map resumed (head_of a.0.queue)) q.place ≡ Some q.want)
            ⊎ ((l : ℕ) × (slice_get (map started (fresh_of c.service.programs a.0 [] parts.batch)) l ≡ Some q.want))
            → Submitted P (record { client = who.client; seq = who.seq; body = body })
        by (inl f) = absurd (let z = get_map resumed (head_of a.0.queue) q.place q.want f in let g : (resumed z.0).call
            ≡ None = ap (λ (x : Want). x.call) z.2 ∙ q.none in cc)
        by (inr f) =
            let z = get_map started (fresh_of c.service.programs a.0 [] parts.batch) f.0 q.want f.1 in
            let b = (fresh-at c.service a.0 [] parts.batch f.0 z.0 z.1).1 in
            let e1 : z.0.client ≡ who.client = ap (λ (x : Want). x.client) z.2 ∙ q.client in
            let e2 : z.0.seq ≡ who.seq = ap (λ (x : Want). x.seq) z.2 ∙ q.seq in
            let e3 : z.0.body ≡ body = ap (λ (x : Want). x.body) z.2 ∙ q.text in
            let same : z.0 ≡ record { client = who.client; seq = who.seq; body = body } = λ i. record { client = e1 i; seq = e2 i; body = e3 i } in
            subst (Submitted P) same (entries b.0 z.0 b.1)

    go : (b : Bool) → slice_get {X = HistoryStep}
        (cond b (steps_by o.1.made.wants
        (numbers o.1.made.tables.next
        (finish c.service.programs o.1.made.job (ordered o.1.made v) o.1.made.tables.store).ends) (ordered o.1.made v))
        ((Serve InvTier 0, []) ∷ [])) j ≡ Some (Start who n, body)
        → Submitted P (record { client = who.client; seq = who.seq; body = body })
    go true f = from (subst (λ z. StartOf z who.client who.seq body) parts.is_wants
        (steps_start o.1.made.wants
        (numbers o.1.made.tables.next
        (finish c.service.programs o.1.made.job (ordered o.1.made v) o.1.made.tables.store).ends) (ordered o.1.made v) j
        n who body f))
    go false f = absurd (none j f)
      where
        none : (j : ℕ) → slice_get {X = HistoryStep} ((Serve InvTier 0, []) ∷ []) j ≡ Some (Start who n, body) → ⊥
        none zero f = let g : false ≡ true = ap (λ (x : HistoryStep). is_start x.0) (same_Some (Serve InvTier 0, []) (Start who n, body) f) in cc
        none (suc j) f = cc

-- A LOG GROWS

-- the history's list of served calls is looked up as the maps say
pub served_same : {B : Type 0} (c : Config B) (w : World B) (codes : AllCodes) (h : AllFacts) → Core c w codes h
    → served_of c w ≡ (server c.service w.hist).served
served_same c w codes h i = λ j t n. (shown c.service w.hist i.laws.again i.ledger.legal).shows.served t n j

extend_mid : {B : Type 0} (c : Config B) (w : World B) (codes : AllCodes) (h : AllFacts) (v : AnyValue)
    → Core c w codes h → MidOk c (past c w codes) (length (w.logs MidTier)) v
    → Extended c.service c.depth w.hist (w.logs MidTier ++ v ∷ []) (back_logs w.logs)
    (w.hist ++ value_steps c.service.programs c.depth (w.logs MidTier) (server c.service w.hist).served v)
extend_mid c w codes h (OfBack v) i o = absurd o
extend_mid c w codes h (OfMid (Batch es)) i o = extend_batch c.service c.depth (w.logs MidTier) (back_logs w.logs) w.hist es o.0 i.ledger
extend_mid c w codes h (OfMid (Decided v)) i o =
    ledger_verdict c.service c.depth (w.logs MidTier) (back_logs w.logs) w.hist v o.1.made o.0 o.1.is_round
    (is_ordered c (past c w codes) (half (length (w.logs MidTier))) o.1.made v o.1.by) i.ledger

extend_back : {B : Type 0} (c : Config B) (w : World B) (codes : AllCodes) (h : AllFacts) (t : Tier) (v : AnyValue)
    → same_tier t MidTier ≡ false → Core c w codes h → BackOk c (past c w codes) t (length (back_logs w.logs t)) v
    → Extended c.service c.depth w.hist (w.logs MidTier) (put_tier (back_logs w.logs) t (back_logs w.logs t ++ v ∷ []))
    (w.hist ++ back_steps t (back_logs w.logs t) v)
extend_back c w codes h t (OfMid v) b i o = absurd o
extend_back c w codes h t (OfBack (Called n text)) b i o = ledger_called c.service c.depth (w.logs MidTier) (back_logs w.logs) w.hist t n text b o i.ledger
extend_back c w codes h t (OfBack (Settled g)) b i o = ledger_settled c.service c.depth (w.logs MidTier) (back_logs w.logs) w.hist t g o.served i.ledger

abbrev longer_by : (Tier → List AnyValue) → Tier → AnyValue → Tier → List AnyValue
longer_by logs t v = put_tier logs t (logs t ++ v ∷ [])

-- the backends' logs, once the middle one is longer, or one of theirs is
same_backs : (logs : Tier → List AnyValue) (v : AnyValue) → back_logs logs ≡ back_logs (longer_by logs MidTier v)
same_backs logs v = λ i s. at s i
  where
    at : (s : Tier) → back_logs logs s ≡ back_logs (longer_by logs MidTier v) s
    at MidTier = refl
    at InvTier = refl
    at PayTier = refl

inv_longer : (logs : Tier → List AnyValue) (v : AnyValue) → longer_by (back_logs logs) InvTier v ≡ back_logs (longer_by logs InvTier v)
inv_longer logs v = λ i s. at s i
  where
    at : (s : Tier) → longer_by (back_logs logs) InvTier v s ≡ back_logs (longer_by logs InvTier v) s
    at MidTier = refl
    at InvTier = refl
    at PayTier = refl

pay_longer : (logs : Tier → List AnyValue) (v : AnyValue) → longer_by (back_logs logs) PayTier v ≡ back_logs (longer_by logs PayTier v)
pay_longer logs v = λ i s. at s i
  where
    at : (s : Tier) → longer_by (back_logs logs) PayTier v s ≡ back_logs (longer_by logs PayTier v) s
    at MidTier = refl
    at InvTier = refl
    at PayTier = refl

extend_at : {B : Type 0} (c : Config B) (w : World B) (codes : AllCodes) (h : AllFacts) (t : Tier) (v : AnyValue)
    → Core c w codes h → ValueOk c (past c w codes) t (length (w.logs t)) v
    → Extended c.service c.depth w.hist (longer_by w.logs t v MidTier) (back_logs (longer_by w.logs t v)) (w.hist ++ steps_at c w t v)
extend_at c w codes h MidTier v i o = subst
    (λ K. Extended c.service c.depth w.hist (w.logs MidTier ++ v ∷ []) K
    (w.hist ++ value_steps c.service.programs c.depth (w.logs MidTier) (served_of c w) v)) (same_backs w.logs v)
    (subst (λ A. Extended c.service c.depth w.hist (w.logs MidTier ++ v ∷ []) (back_logs w.logs)
    (w.hist ++ value_steps c.service.programs c.depth (w.logs MidTier) A v)) (sym (served_same c w codes h i))
    (extend_mid c w codes h v i o))
extend_at c w codes h InvTier v i o = subst
    (λ K. Extended c.service c.depth w.hist (w.logs MidTier) K (w.hist ++ back_steps InvTier (w.logs InvTier) v))
    (inv_longer w.logs v) (extend_back c w codes h InvTier v refl i o)
extend_at c w codes h PayTier v i o = subst
    (λ K. Extended c.service c.depth w.hist (w.logs MidTier) K (w.hist ++ back_steps PayTier (w.logs PayTier) v))
    (pay_longer w.logs v) (extend_back c w codes h PayTier v refl i o)

start_at : {B : Type 0} (c : Config B) (w : World B) (codes : AllCodes) (h : AllFacts) (t : Tier) (v : AnyValue)
    → Core c w codes h → ValueOk c (past c w codes) t (length (w.logs t)) v → StartsIn (past c w codes) (steps_at c w t v)
start_at c w codes h MidTier v i o = subst
    (λ A. StartsIn (past c w codes) (value_steps c.service.programs c.depth (w.logs MidTier) A v))
    (sym (served_same c w codes h i)) (value_starts c w codes h v i o)
start_at c w codes h InvTier v i o = λ j n who body f. absurd (back_starts InvTier (w.logs InvTier) v j n who body f)
start_at c w codes h PayTier v i o = λ j n who body f. absurd (back_starts PayTier (w.logs PayTier) v j n who body f)

-- what the growth of the tier t's log leaves
record Grown {B : Type 0} (c : Config B) (w : World B) (t : Tier) (codes : AllCodes) (h : AllFacts) (z : World B) : Type 0 where
  core : Core c z codes h
  here : Complete c.u (log_soup t z.soup) (z.logs t)
  near : (v : Tier) → same_tier v t ≡ false → Nearly c.u (log_soup v w.soup) (w.logs v) → Nearly c.u (log_soup v z.soup) (z.logs v)
  there : (v : Tier) → same_tier v t ≡ false → Complete c.u (log_soup v w.soup) (w.logs v) → Complete c.u (log_soup v z.soup) (z.logs v)

more_mid : (logs : Tier → List AnyValue) (t : Tier) (v : AnyValue) → MoreLog (logs MidTier) (longer_by logs t v MidTier)
more_mid logs MidTier v = more-push (logs MidTier) v
more_mid logs InvTier v = more-refl (logs MidTier)
more_mid logs PayTier v = more-refl (logs MidTier)

grown_ok : {B : Type 0} (c : Config B) (w : World B) (t : Tier) (codes : AllCodes) (h : AllFacts) (o : Option AnyValue)
    → c.u < 128 → chosen_next c w t ≡ o → Core c w codes h → Nearly c.u (log_soup t w.soup) (w.logs t)
    → Grown c w t codes h (grown c w t o)
grown_ok c w t codes h None few e i n = record { core = i; here = grow_none c.u (log_soup t w.soup) (w.logs t) n e; near = λ v f d. d; there = λ v f d. d }
grown_ok {B} c w t codes h (Some v) few e i n =
    let m : Meets c.u (log_soup t w.soup) (length (w.logs t)) v = chosen_now c.u (log_soup t w.soup) (length (w.logs t)) v e in
    let ok : ValueOk c (past c w codes) t (length (w.logs t)) v = meets_good c.u (h t) (log_soup t w.soup) (w.logs t)
    (ValueOk c (past c w codes) t) (length (w.logs t)) v (i.logs t) m in
    let x : Extended c.service c.depth w.hist (longer_by w.logs t v MidTier) (back_logs (longer_by w.logs t v))
    (w.hist ++ steps_at c w t v) = extend_at c w codes h t v i ok in
    record {
      core = core_longer c w codes h (longer_by w.logs t v) (w.hist ++ steps_at c w t v) i
          (grows_to c w codes (longer_by w.logs t v) (w.hist ++ steps_at c w t v) (more_mid w.logs t v) x.kept) x.ledger
          (by_tier (λ s K. LogPart c.u (h s) (log_soup s w.soup) K (ValueOk c (past c w codes) s)) w.logs t
          (w.logs t ++ v ∷ [])
          (part_some c.u (h t) (log_soup t w.soup) (w.logs t) (ValueOk c (past c w codes) t) v (i.logs t) m) (λ s f. i.logs s))
          (starts_by c w codes h (steps_at c w t v) i (start_at c w codes h t v i ok));
      here = subst (Complete c.u (log_soup t w.soup)) (sym (tier_here w.logs t (w.logs t ++ v ∷ [])))
          (grow_some c.u (h t) (log_soup t w.soup) (w.logs t) (ValueOk c (past c w codes) t) v few (i.logs t) n m);
      near = λ s f d. subst (Nearly c.u (log_soup s w.soup)) (sym (tier_there w.logs t (w.logs t ++ v ∷ []) s f)) d;
      there = λ s f d. subst (Complete c.u (log_soup s w.soup)) (sym (tier_there w.logs t (w.logs t ++ v ∷ []) s f)) d;
    }

pub grows_ok : {B : Type 0} (c : Config B) (P : Past B) (w : World B) → c.u < 128 → Mid_event c P w → WorldOk c (grows c w)
grows_ok {B} c P w few i = record { codes = i.codes; h = i.h; core = p.core; done = record { all = all } }
  where
    one : World B
    one = grows_at c MidTier w

    two : World B
    two = grows_at c InvTier one

    m : Grown c w MidTier i.codes i.h one
    m = grown_ok c w MidTier i.codes i.h (chosen_next c w MidTier) few refl i.core (i.near.all MidTier)

    n : Grown c one InvTier i.codes i.h two
    n = grown_ok c one InvTier i.codes i.h (chosen_next c one InvTier) few refl m.core (m.near InvTier refl (i.near.all InvTier))

    p : Grown c two PayTier i.codes i.h (grows c w)
    p = grown_ok c two PayTier i.codes i.h (chosen_next c two PayTier) few refl n.core (n.near PayTier refl (m.near PayTier refl (i.near.all PayTier)))

    all : (t : Tier) → Complete c.u (log_soup t (grows c w).soup) ((grows c w).logs t)
    all MidTier = p.there MidTier refl (n.there MidTier refl m.here)
    all InvTier = p.there InvTier refl n.here
    all PayTier = p.here

-- what the nodes hold stays
pub grows_codes : {B : Type 0} (c : Config B) (P : Past B) (w : World B) (few : c.u < 128) (i : Mid_event c P w) → (grows_ok c P w few i).codes ≡ i.codes
unfolding grows_ok
grows_codes c P w few i = refl
