-- All steps of a round, in any order of its job.
use Rattle.std.proofs.Common.{◌≡◌, ℕ, ◌<◌, ◌≤◌, true, List, [], ◌∷◌, ◌++◌, length, refl, sym, ap, ◌∙◌, subst, inl, inr, Option, Some, None, zero, suc, arith}
use Rattle.std.specs.Prelude.{slice_get, ◌⊎◌, ◌==◌, nat_lt}
use Rattle.std.proofs.lemmas.Bool.{eq-eqb, ne_eqb, cond-true, cond-false, cases_eq, and_parts, ltb-true}
use Rattle.std.proofs.lemmas.List.{append-nil, append_assoc}
use Rattle.aeg_base.specs.Store.{Store}
use Rattle.aeg_base.specs.declared.names.Tier.{Tier}
use Rattle.exec_model.specs.declared.job.Seg.{Seg}
use Rattle.round_model.specs.Lists.{at, OfTiers, of_tier, and_then, tabulate}
use Rattle.exec_model.proofs.Basics.{times-append}
use Rattle.round_model.specs.Service.{Service, all_below, each_once, run, segment, serial, serial_end, times}
use Rattle.round_model.specs.Tables.{Codes as Answers, Number, Want, answered, bump, job_of, numbers}
use Rattle.run_model.specs.Histories.{step_of, steps_by}
use Rattle.server_model.specs.History.{History as History_}
use Rattle.svc_api.proofs.Orders.{once-at}
use Rattle.svc_api.specs.declared.action.Ending.{Ending}
use Rattle.svc_api.specs.declared.action.Ending.TheVariants.{Call, Reply}
use Rattle.run_model.specs.Histories.{HistoryStep}
use Rattle.tier_laws.proofs.Rounds.ActsByIndex.{Act, Distinct, Numbered, NumberedAs, acts, acts_want, num-low, num-once, one_client, want_acts}
use Rattle.tier_laws.proofs.Rounds.AnyOrder.{Bounded, NumberOk, Partway, WantOk, act_done, act_partway, acted, acted-bounded, step_for}
use Rattle.tier_laws.proofs.Rounds.StableRounds.{then_parts}
use Rattle.tier_laws.proofs.Server.LookUps.{IsDone, LegalFrom, Server, result_or, server_from, step}
use Rattle.tier_laws.proofs.Server.LookUps.Result.{Done}
use Rattle.tier_laws.proofs.Lists.ItemsByIndex.{get_within, get-tabulate, length-tabulate}

-- ORDERS

all-mid : (n i : ℕ) (done rest : List ℕ) → all_below n (done ++ i ∷ rest) ≡ true → i < n
all-mid n i [] rest e = ltb-true i n (and_parts (nat_lt i n) (all_below n rest) e).0
all-mid n i (d ∷ done) rest e = all-mid n i done rest (and_parts (nat_lt d n) (all_below n (done ++ i ∷ rest)) e).1

-- JOBS

pub job_at : (A : Answers) (ws : List Want) (J : List Seg) (i : ℕ) (j : Seg) → job_of A ws ≡ Some J
    → slice_get J i ≡ Some j → (w : Want) × (slice_get ws i ≡ Some w) × (answered A w w.call ≡ Some j)
job_at A [] J i j e f = absurd (let s : [] ≡ J = cc in let g : slice_get [] i ≡ Some j = subst (λ z. slice_get z i ≡ Some j) (sym s) f in cc)
job_at A (w ∷ ws) J i j e f = go i (subst (λ z. slice_get z i ≡ Some j) (sym same) f) (λ i g. job_at A ws q.0 i j q.1 g)
  where
    p : (x : Seg) × (answered A w w.call ≡ Some x) × (and_then (job_of A ws) (λ js. Some (x ∷ js)) ≡ Some J)
    p = then_parts (answered A w w.call) (λ j. and_then (job_of A ws) (λ js. Some (j ∷ js))) J e

    q : (K : List Seg) × (job_of A ws ≡ Some K) × (Some (p.0 ∷ K) ≡ Some J)
    q = then_parts (job_of A ws) (λ js. Some (p.0 ∷ js)) J p.2

    same : p.0 ∷ q.0 ≡ J
    same = let z = q.2 in cc

    go : (i : ℕ) → slice_get (p.0 ∷ q.0) i ≡ Some j
        → ((i : ℕ) → slice_get q.0 i ≡ Some j → (v : Want) × (slice_get ws i ≡ Some v) × (answered A v v.call ≡ Some j))
        → (v : Want) × (slice_get (w ∷ ws) i ≡ Some v) × (answered A v v.call ≡ Some j)
    go zero g rec = (w, refl, p.1 ∙ g)
    go (suc i) g rec = rec i g

pub job-length : (A : Answers) (ws : List Want) (J : List Seg) → job_of A ws ≡ Some J → length J ≡ length ws
job-length A [] J e = let s : [] ≡ J = cc in ap length (sym s)
job-length A (w ∷ ws) J e =
    let p = then_parts (answered A w w.call) (λ j. and_then (job_of A ws) (λ js. Some (j ∷ js))) J e in
    let q = then_parts (job_of A ws) (λ js. Some (p.0 ∷ js)) J p.2 in
    let f = q.2 in let s : p.0 ∷ q.0 ≡ J = cc in omega (arith, ap length s, job-length A ws q.0 q.1)

-- SERIAL

pub serial-push : {B : Type 0} (m : Service B) (J : List Seg) (done : List ℕ) (i : ℕ) (s : Store)
    → serial m.programs J (done ++ i ∷ []) s ≡ (segment m.programs (slice_get J i) (serial m.programs J done s)).store
serial-push m J [] i s = refl
serial-push m J (d ∷ done) i s = serial-push m J done i (segment m.programs (slice_get J d) s).store

pub serial_end-at : {B : Type 0} (m : Service B) (J : List Seg) (done : List ℕ) (i : ℕ) (rest : List ℕ) (s : Store)
    → times i done ≡ 0 → serial_end m.programs J (done ++ i ∷ rest) s i
    ≡ (segment m.programs (slice_get J i) (serial m.programs J done s)).ending
serial_end-at m J [] i rest s e = cond-true (i == i) (segment m.programs (slice_get J i) s).ending _ (eq-eqb i i refl)
serial_end-at {B} m J (d ∷ done) i rest s e = go (cases_eq d i) (λ f. serial_end-at m J done i rest (segment m.programs (slice_get J d) s).store f)
  where
    go : (d ≡ i) ⊎ (d ≡ i → ⊥)
        → (times i done ≡ 0 → serial_end m.programs J (done ++ i ∷ rest) (segment m.programs (slice_get J d) s).store i
        ≡ (segment m.programs (slice_get J i) (serial m.programs J done (segment m.programs (slice_get J d) s).store)).ending)
        → serial_end m.programs J (d ∷ done ++ i ∷ rest) s i
        ≡ (segment m.programs (slice_get J i) (serial m.programs J done (segment m.programs (slice_get J d) s).store)).ending
    go (inl f) r = absurd (omega (arith, e, cond-true {A = ℕ} (d == i) 1 0 (eq-eqb d i f)))
    go (inr f) r = cond-false (d == i) (segment m.programs (slice_get J d) s).ending _ (ne_eqb d i f)
        ∙ r (omega (arith, e, cond-false {A = ℕ} (d == i) 1 0 (ne_eqb d i f)))

-- THE ROUND

pub record Setting {B : Type 0} (m : Service B) (O : Server B) (next : OfTiers ℕ) (ws : List Want) (J : List Seg) (order : List ℕ) : Type 0 where
  pub job : job_of O.served ws ≡ Some J
  pub distinct : Distinct ws
  pub ok : (i : ℕ) (w : Want) → slice_get ws i ≡ Some w → WantOk m O w w.call
  pub first : (t : Tier) → 0 < of_tier next t
  pub fresh : (t : Tier) (n : ℕ) (text : List ℕ) → O.calls t n ≡ Some text → n < of_tier next t
  pub inside : all_below (length J) order ≡ true
  pub once : each_once (length J) order ≡ true

abbrev pub ends_of : {B : Type 0} → Service B → List Seg → List ℕ → Store → List Ending
ends_of m J order s = tabulate (length J) (serial_end m.programs J order s)

abbrev pub acts_of : {B : Type 0} → Service B → Server B → OfTiers ℕ → List Want → List Seg → List ℕ → List Act
acts_of m O next ws J order = acts next ws (ends_of m J order O.store)

legal_step : {B : Type 0} (m : Service B) (P N : Server B) (k : HistoryStep) (ks : History_) → step m P k ≡ Done N → LegalFrom m N ks → LegalFrom m P (k ∷ ks)
legal_step m P N k ks e l = subst (λ z. IsDone z × LegalFrom m (result_or P z) ks) (sym e) (tt, l)

server_step : {B : Type 0} (m : Service B) (P N : Server B) (k : HistoryStep) (ks : History_) → step m P k ≡ Done N
    → server_from m P (k ∷ ks) ≡ server_from m N ks
server_step m P N k ks e = ap (λ z. server_from m (result_or P z) ks) e

step_of_is : (w : Want) (q : Option Number) (n : ℕ) → w.call ≡ q → step_of (Some w) n ≡ step_for w q n
step_of_is w None n e = rw e refl
step_of_is w (Some k) n e = rw e refl

want_still : {B : Type 0} (m : Service B) (O P : Server B) (w : Want) (q : Option Number)
    → P.last w.client ≡ O.last w.client → P.progress w.client ≡ O.progress w.client → WantOk m O w q → WantOk m P w q
want_still m O P w None e f o = (o.0 ∙ ap suc (sym e), f ∙ o.1, o.2, o.3, o.4)
want_still m O P w (Some k) e f o = (o.0 ∙ sym e, f ∙ o.1)

-- what is known of one step's act
record Here {B : Type 0} (m : Service B) (O : Server B) (next : OfTiers ℕ) (ws : List Want) (J : List Seg)
    (order done : List ℕ) (i : ℕ) (P : Server B) : Type 0 where
  act : Act
  is_act : slice_get (acts_of m O next ws J order) i ≡ Some act
  seg : Seg
  is_seg : slice_get J i ≡ Some seg
  in_ws : slice_get ws i ≡ Some act.want
  none : times i done ≡ 0
  answer : answered O.served act.want act.want.call ≡ Some seg
  ending : (run m.programs seg (serial m.programs J done O.store)).ending ≡ act.ending
  num : at 0 (numbers next (ends_of m J order O.store)) i ≡ act.num

here : {B : Type 0} (m : Service B) (O : Server B) (next : OfTiers ℕ) (ws : List Want) (J : List Seg)
    (order done : List ℕ) (i : ℕ) (rest : List ℕ) (P : Server B) → Setting m O next ws J order
    → order ≡ done ++ i ∷ rest → Here m O next ws J order done i P
here {B} m O next ws J order done i rest P g e = record {
  act = b.0;
  is_act = b.1;
  seg = j.0;
  is_seg = j.1;
  in_ws = w.1 ∙ ap Some (sym b.2);
  none = none;
  answer = rw b.2 w.2;
  ending = ap (λ z. (segment m.programs z (serial m.programs J done O.store)).ending) (sym j.1)
      ∙ sym (serial_end-at m J done i rest O.store none) ∙ ap (λ z. serial_end m.programs J z O.store i) (sym e) ∙ at_end;
  num = (acts_want next ws (ends_of m J order O.store) i b.0 b.1).2;
}
  where
    inside : i < length J
    inside = all-mid (length J) i done rest (subst (λ z. all_below (length J) z ≡ true) e g.inside)

    once : times i (done ++ i ∷ rest) ≡ 1
    once = subst (λ z. times i z ≡ 1) e (once-at (length J) i order inside g.once)

    none : times i done ≡ 0
    none = omega (arith, once, times-append i done (i ∷ rest), cond-true {A = ℕ} (i == i) 1 0 (eq-eqb i i refl))

    j : (j : Seg) × (slice_get J i ≡ Some j)
    j = get_within J i inside

    w : (w : Want) × (slice_get ws i ≡ Some w) × (answered O.served w w.call ≡ Some j.0)
    w = job_at O.served ws J i j.0 g.job j.1

    b : (a : Act) × (slice_get (acts_of m O next ws J order) i ≡ Some a) × (a.want ≡ w.0)
    b = want_acts next ws (ends_of m J order O.store) i w.0
        (omega (arith, job-length O.served ws J g.job, length-tabulate (length J) (serial_end m.programs J order O.store))) w.1

    at_end : serial_end m.programs J order O.store i ≡ b.0.ending
    at_end = let h : Some (serial_end m.programs J order O.store i)
        ≡ Some b.0.ending = sym (get-tabulate (length J) (serial_end m.programs J order O.store) i inside)
        ∙ (acts_want next ws (ends_of m J order O.store) i b.0 b.1).1 in cc

number_ok : {B : Type 0} (m : Service B) (O P : Server B) (next : OfTiers ℕ) (ws : List Want) (J : List Seg)
    (order done : List ℕ) (s : Store) (i : ℕ) (e : Ending) (a : Act) → Setting m O next ws J order
    → Partway O (acts_of m O next ws J order) ws done s P → slice_get (acts_of m O next ws J order) i ≡ Some a
    → times i done ≡ 0 → a.ending ≡ e → NumberOk P e a.num
number_ok m O P next ws J order done s i (Reply text) a g k at none f = zero_num next ws (ends_of m J order O.store) i a text at f
  where
    zero_num : (next : OfTiers ℕ) (ws : List Want) (es : List Ending) (i : ℕ) (a : Act) (text : List ℕ)
        → slice_get (acts next ws es) i ≡ Some a → a.ending ≡ Reply text → a.num ≡ 0
    zero_num next [] es i a text e f = absurd (cc)
    zero_num next (w ∷ ws) [] i a text e f = absurd (cc)
    zero_num next (w ∷ ws) (Reply x ∷ es) zero a text e f = let s : record { want = w; ending = Reply x; num = 0 } ≡ a = cc in sym (ap (λ (z : Act). z.num) s)
    zero_num next (w ∷ ws) (Reply x ∷ es) (suc i) a text e f = zero_num next ws es i a text e f
    zero_num next (w ∷ ws) (Call t stage x ∷ es) zero a text e f = absurd
        (let s : record { want = w; ending = Call t stage x; num = of_tier next t } ≡ a = cc in let h : Call t stage x
        ≡ Reply text = ap (λ (z : Act). z.ending) s ∙ f in cc)
    zero_num next (w ∷ ws) (Call t stage x ∷ es) (suc i) a text e f = zero_num (bump next t) ws es i a text e f
number_ok {B} m O P next ws J order done s i (Call t stage text) a g k at none f = (omega (arith, g.first t, low), free (P.calls t a.num) refl)
  where
    numbered : Numbered a t a.num
    numbered = subst (λ e. NumberedAs e a.num t a.num) (sym f) (refl, refl)

    low : of_tier next t ≤ a.num
    low = num-low next ws (ends_of m J order O.store) i a t a.num at numbered

    free : (o : Option (List ℕ)) → P.calls t a.num ≡ o → P.calls t a.num ≡ None
    free None e = e
    free (Some x) e = absurd (old (k.calls t a.num x e))
      where
        old : (O.calls t a.num ≡ Some x)
            ⊎ ((j : ℕ) × (b : Act) × (slice_get (acts_of m O next ws J order) j ≡ Some b) × (0 < times j done)
            × Numbered b t a.num) → ⊥
        old (inl h) = omega (arith, g.fresh t a.num x h, low)
        old (inr r) = let same : i ≡ r.0 = num-once next ws (ends_of m J order O.store) i r.0 a r.1 t a.num at r.2
            numbered r.4 in omega (arith, ap (λ z. times z done) same, none, r.3)

pub record RoundDone {B : Type 0} (m : Service B) (O : Server B) (next : OfTiers ℕ) (ws : List Want) (J : List Seg)
    (order : List ℕ) (P : Server B) (ks : History_) : Type 0 where
  pub legal : LegalFrom m P ks
  pub there : Partway O (acts_of m O next ws J order) ws order (serial m.programs J order O.store) (server_from m P ks)
  pub bounded : Bounded (server_from m P ks)

record Stepped {B : Type 0} (m : Service B) (O : Server B) (next : OfTiers ℕ) (ws : List Want) (J : List Seg)
    (order done : List ℕ) (i : ℕ) (P : Server B) : Type 0 where
  server : Server B
  is_step : step m P (step_of (slice_get ws i) (at 0 (numbers next (ends_of m J order O.store)) i)) ≡ Done server
  there : Partway O (acts_of m O next ws J order) ws (done ++ i ∷ []) (serial m.programs J (done ++ i ∷ []) O.store) server
  bounded : Bounded server

one_legal : {B : Type 0} (m : Service B) (O : Server B) (next : OfTiers ℕ) (ws : List Want) (J : List Seg)
    (order : List ℕ) → Setting m O next ws J order → (done : List ℕ) (i : ℕ) (P : Server B) → Here m O next ws J order done i P
    → Partway O (acts_of m O next ws J order) ws done (serial m.programs J done O.store) P → Bounded P → Stepped m O next ws J order done i P
one_legal {B} m O next ws J order g done i P h k b = record {
  server = acted P h.act.want h.act.num h.act.ending (run m.programs h.seg P.store).store;
  is_step = ap (λ z. step m P (step_of z (at 0 (numbers next (ends_of m J order O.store)) i))) h.in_ws
      ∙ ap (λ z. step m P (step_of (Some h.act.want) z)) h.num
      ∙ ap (step m P) (step_of_is h.act.want h.act.want.call h.act.num refl)
      ∙ act_done m P h.act.want h.act.want.call h.act.num h.seg ok answer (subst (λ e. NumberOk P e h.act.num) (sym ending) number)
      ∙ ap (λ e. Done (acted P h.act.want h.act.num e (run m.programs h.seg P.store).store)) ending;
  there = subst (λ s. Partway O (acts_of m O next ws J order) ws (done ++ i ∷ []) s
      (acted P h.act.want h.act.num h.act.ending (run m.programs h.seg P.store).store)) store
      (act_partway m O P (acts_of m O next ws J order) ws done (serial m.programs J done O.store)
      (run m.programs h.seg P.store).store i h.act h.act.want.call k b h.is_act h.none h.in_ws alone ok number);
  bounded = acted-bounded m P h.act.want h.act.want.call h.act.num h.act.ending (run m.programs h.seg P.store).store b ok;
}
  where
    same : (P.last h.act.want.client ≡ O.last h.act.want.client) × (P.progress h.act.want.client ≡ O.progress h.act.want.client)
    same = k.waits i h.act h.is_act h.none

    ok : WantOk m P h.act.want h.act.want.call
    ok = want_still m O P h.act.want h.act.want.call same.0 same.1 (g.ok i h.act.want h.in_ws)

    answer : answered P.served h.act.want h.act.want.call ≡ Some h.seg
    answer = ap (λ A. answered A h.act.want h.act.want.call) k.served ∙ h.answer

    ending : (run m.programs h.seg P.store).ending ≡ h.act.ending
    ending = ap (λ s. (run m.programs h.seg s).ending) k.store ∙ h.ending

    number : NumberOk P h.act.ending h.act.num
    number = number_ok m O P next ws J order done (serial m.programs J done O.store) i h.act.ending h.act g k h.is_act h.none refl

    store : (run m.programs h.seg P.store).store ≡ serial m.programs J (done ++ i ∷ []) O.store
    store = ap (λ s. (run m.programs h.seg s).store) k.store
        ∙ ap (λ z. (segment m.programs z (serial m.programs J done O.store)).store) (sym h.is_seg)
        ∙ sym (serial-push m J done i O.store)

    alone : (j : ℕ) (c : Act) → slice_get (acts_of m O next ws J order) j ≡ Some c → c.want.client ≡ h.act.want.client → j ≡ i
    alone j c f e = one_client ws j i c.want h.act.want g.distinct (acts_want next ws (ends_of m J order O.store) j c f).0 h.in_ws e

rest_legal : {B : Type 0} (m : Service B) (O : Server B) (next : OfTiers ℕ) (ws : List Want) (J : List Seg)
    (order : List ℕ) → Setting m O next ws J order → (rest done : List ℕ) (P : Server B) → order ≡ done ++ rest
    → Partway O (acts_of m O next ws J order) ws done (serial m.programs J done O.store) P → Bounded P
    → RoundDone m O next ws J order P (steps_by ws (numbers next (ends_of m J order O.store)) rest)
rest_legal m O next ws J order g [] done P e k b =
    let f : order ≡ done = e ∙ append-nil done in
    record { legal = tt; there = subst (λ z. Partway O (acts_of m O next ws J order) ws z (serial m.programs J z O.store) P) (sym f) k; bounded = b }
rest_legal m O next ws J order g (i ∷ rest) done P e k b =
    let t : Stepped m O next ws J order done i P = one_legal m O next ws J order g done i P (here m O next ws J order done i rest P g e) k b in
    let r : RoundDone m O next ws J order t.server
    (steps_by ws (numbers next (ends_of m J order O.store)) rest) = rest_legal m O next ws J order g rest
    (done ++ i ∷ []) t.server (e ∙ sym (append_assoc done (i ∷ []) rest)) t.there t.bounded in
    let same = server_step m P t.server (step_of (slice_get ws i) (at 0 (numbers next (ends_of m J order O.store)) i))
    (steps_by ws (numbers next (ends_of m J order O.store)) rest) t.is_step in
    record {
      legal = legal_step m P t.server (step_of (slice_get ws i) (at 0 (numbers next (ends_of m J order O.store)) i))
          (steps_by ws (numbers next (ends_of m J order O.store)) rest) t.is_step r.legal;
      there = rw same r.there;
      bounded = rw same r.bounded;
    }

pub round_legal : {B : Type 0} (m : Service B) (O : Server B) (next : OfTiers ℕ) (ws : List Want) (J : List Seg)
    (order : List ℕ) → Setting m O next ws J order → Bounded O
    → RoundDone m O next ws J order O (steps_by ws (numbers next (ends_of m J order O.store)) order)
round_legal m O next ws J order g b = rest_legal m O next ws J order g order [] O refl (record {
  store = refl;
  waits = λ i a e z. (refl, refl);
  ended = λ i a e z. absurd (omega arith);
  others = λ c n. (refl, refl);
  calls = λ t n text e. inl e;
  kept = record { calls = λ t n text e. e; replies = λ c s text e. e; served = λ t n code e. e };
  served = refl;
  backs = refl;
}) b
