-- The clients' table after a round is that of the tables.
use Rattle.std.proofs.Common.{◌≡◌, ℕ, zero, suc, ◌≤◌, ◌==◌, Bool, true, false, cond, List, [], ◌∷◌, ◌++◌, length, map}
use Rattle.std.proofs.Common.{refl, sym, ap, ◌∙◌, subst, arith, Option, Some, None}
use Rattle.std.specs.Prelude.{◌||◌}
use Rattle.std.proofs.lemmas.Bool.Decides.{nat_tests}
use Rattle.aeg_base.specs.declared.names.ReqId.{ReqId}
use Rattle.aeg_base.specs.declared.names.Tier.{Tier}
use Rattle.svc_api.specs.declared.action.Ending.{Ending}
use Rattle.svc_api.specs.declared.action.Ending.TheVariants.{Reply, Call}
use Rattle.exec_model.specs.declared.job.Seg.{Seg}
use Rattle.log_values.specs.declared.entry.Entry.{Entry}
use Rattle.round_model.specs.Lists.{at, put_at, concat, head_of, tail_of, is_some, OfTiers, of_tier}
use Rattle.round_model.specs.Service.{times}
use Rattle.round_model.specs.Tables.{Parked, Want, bump, kept_after, kept_by, last_after, parked_of, parks, resumed, started}
use Rattle.batcher.specs.Clients.{ClientTable, busy_of}
use Rattle.pipeline.specs.States.{RoundsState, next_wants}
use Rattle.pipeline.specs.Kept.{IsInRange, owner}
use Rattle.pipeline.specs.Jobs.{AreFresh, asks_for, unanswered}
use Rattle.pipeline.proofs.Wants.{concat-head, concat-push, one_each, wanter}
use Rattle.applied_rounds.specs.ClientsAfter.{all_ended, ended}

-- PLACES

again : {A : Type 0} (d : A) (xs : List A) (i : ℕ) (a b : A) → put_at d (put_at d xs i a) i b ≡ put_at d xs i b
again d [] zero a b = refl
again d [] (suc i) a b = ap (λ z. d ∷ z) (again d [] i a b)
again d (x ∷ xs) zero a b = refl
again d (x ∷ xs) (suc i) a b = ap (λ z. x ∷ z) (again d xs i a b)

there : {A : Type 0} (d : A) (xs : List A) (i : ℕ) (a : A) → at d (put_at d xs i a) i ≡ a
there d [] zero a = refl
there d [] (suc i) a = there d [] i a
there d (x ∷ xs) zero a = refl
there d (x ∷ xs) (suc i) a = there d xs i a

elsewhere : {A : Type 0} (d : A) (xs : List A) (i j : ℕ) (a : A) → (i == j) ≡ false → at d (put_at d xs i a) j ≡ at d xs j
elsewhere d [] zero zero a e = absurd (cc)
elsewhere d [] zero (suc j) a e = refl
elsewhere d [] (suc i) zero a e = refl
elsewhere d [] (suc i) (suc j) a e = elsewhere d [] i j a (grind (arith, nat_tests, e))
elsewhere d (x ∷ xs) zero zero a e = absurd (cc)
elsewhere d (x ∷ xs) zero (suc j) a e = refl
elsewhere d (x ∷ xs) (suc i) zero a e = refl
elsewhere d (x ∷ xs) (suc i) (suc j) a e = elsewhere d xs i j a (grind (arith, nat_tests, e))

-- ONE SEGMENT

last_one : (t : ClientTable) (who : ReqId) (r : Option (List ℕ)) → (ended t who r).last ≡ put_at 0 t.last who.client who.seq
last_one t who None = refl
last_one t who (Some text) = refl

kept_one : (t : ClientTable) (who : ReqId) (r : Option (List ℕ)) → (ended t who r).kept ≡ put_at None t.kept who.client r
kept_one t who None = refl
kept_one t who (Some text) = again None t.kept who.client None (Some text)

busy_else : (t : ClientTable) (who : ReqId) (r : Option (List ℕ)) (c : ℕ) → (who.client == c) ≡ false → busy_of (ended t who r).busy c ≡ busy_of t.busy c
busy_else t who None c e = elsewhere false t.busy who.client c true e
busy_else t who (Some text) c e =
    elsewhere false (put_at false t.busy who.client true) who.client c false e ∙ elsewhere false t.busy who.client c true e

-- it waits for its call
abbrev called : Option (List ℕ) → Bool
called None = true
called (Some text) = false

busy_here : (t : ClientTable) (who : ReqId) (r : Option (List ℕ)) → busy_of (ended t who r).busy who.client ≡ called r
busy_here t who None = there false t.busy who.client true
busy_here t who (Some text) = there false (put_at false t.busy who.client true) who.client false

-- ALL SEGMENTS

pub last_ended : (t : ClientTable) (js : List Seg) (ws : List Want) (es : List Ending) → map unanswered js ≡ map asks_for ws → length es ≡ length js
    → (all_ended t js (map kept_by es)).last ≡ last_after ws t.last
last_ended t [] [] es h n = refl
last_ended t [] (w ∷ ws) es h n = absurd (cc)
last_ended t (j ∷ js) [] es h n = absurd (cc)
last_ended t (j ∷ js) (w ∷ ws) [] h n = absurd (omega (arith, n))
last_ended t (j ∷ js) (w ∷ ws) (e ∷ es) h n =
    let one : unanswered j ≡ asks_for w = cc in
    let rest : map unanswered js ≡ map asks_for ws = cc in
    last_ended (ended t j.who (kept_by e)) js ws es rest (omega (arith, n))
    ∙ ap (last_after ws) (last_one t j.who (kept_by e) ∙ ap (λ (z : Seg). put_at 0 t.last z.who.client z.who.seq) one)

pub kept_ended : (t : ClientTable) (js : List Seg) (ws : List Want) (es : List Ending) → map unanswered js ≡ map asks_for ws → length es ≡ length js
    → (all_ended t js (map kept_by es)).kept ≡ kept_after ws es t.kept
kept_ended t [] [] [] h n = refl
kept_ended t [] [] (e ∷ es) h n = refl
kept_ended t [] (w ∷ ws) es h n = absurd (cc)
kept_ended t (j ∷ js) [] es h n = absurd (cc)
kept_ended t (j ∷ js) (w ∷ ws) [] h n = absurd (omega (arith, n))
kept_ended t (j ∷ js) (w ∷ ws) (e ∷ es) h n =
    let one : unanswered j ≡ asks_for w = cc in
    let rest : map unanswered js ≡ map asks_for ws = cc in
    kept_ended (ended t j.who (kept_by e)) js ws es rest (omega (arith, n))
    ∙ ap (kept_after ws es) (kept_one t j.who (kept_by e) ∙ ap (λ (z : Seg). put_at None t.kept z.who.client (kept_by e)) one)

-- how often the client is among them
abbrev asked : ℕ → List Want → ℕ
asked c ws = times c (map wanter ws)

-- a client that isn't among them is as busy as before
still : (t : ClientTable) (js : List Seg) (ws : List Want) (es : List Ending) (c : ℕ) → map unanswered js ≡ map asks_for ws → length es ≡ length js
    → asked c ws ≡ 0 → busy_of (all_ended t js (map kept_by es)).busy c ≡ busy_of t.busy c
still t [] [] es c h n z = refl
still t [] (w ∷ ws) es c h n z = absurd (cc)
still t (j ∷ js) [] es c h n z = absurd (cc)
still t (j ∷ js) (w ∷ ws) [] c h n z = absurd (omega (arith, n))
still t (j ∷ js) (w ∷ ws) (e ∷ es) c h n z =
    let one : unanswered j ≡ asks_for w = cc in
    let rest : map unanswered js ≡ map asks_for ws = cc in
    let own : j.who.client ≡ w.client = ap (λ (q : Seg). q.who.client) one in
    let other : (w.client == c) ≡ false = grind (arith, nat_tests, z) in
    still (ended t j.who (kept_by e)) js ws es c rest (omega (arith, n)) (omega (arith, z))
    ∙ busy_else t j.who (kept_by e) c (ap (λ q. q == c) own ∙ other)

-- the request that a call parks
abbrev park_by : OfTiers ℕ → Want → Tier → ℕ → List ℕ → Parked
park_by next w t stage text = record { client = w.client; seq = w.seq; body = w.body; stage = stage; tier = t; num = of_tier next t; text = text }

past : (b : Bool) (p : Parked) (o : Option Parked) → b ≡ false → is_some (cond b (Some p) o) ≡ is_some o
past true p o e = absurd (cc)
past false p o e = refl

found : (b : Bool) (p : Parked) (o : Option Parked) → b ≡ true → is_some (cond b (Some p) o) ≡ true
found true p o e = refl
found false p o e = absurd (cc)

none_parked : (next : OfTiers ℕ) (ws : List Want) (es : List Ending) (c : ℕ) → asked c ws ≡ 0 → is_some (parked_of c (parks next ws es)) ≡ false
none_parked next [] es c z = refl
none_parked next (w ∷ ws) [] c z = refl
none_parked next (w ∷ ws) (Reply text ∷ es) c z = none_parked next ws es c (omega (arith, z))
none_parked next (w ∷ ws) (Call t stage text ∷ es) c z =
    let other : (w.client == c) ≡ false = grind (arith, nat_tests, z) in
    past (w.client == c) (park_by next w t stage text) (parked_of c (parks (bump next t) ws es)) other ∙ none_parked (bump next t) ws es c (omega (arith, z))

-- a client that is once among them is busy where its segment called
now_busy : (t : ClientTable) (next : OfTiers ℕ) (js : List Seg) (ws : List Want) (es : List Ending) (c : ℕ) → map unanswered js ≡ map asks_for ws
    → length es ≡ length js → asked c ws ≡ 1 → busy_of (all_ended t js (map kept_by es)).busy c ≡ is_some (parked_of c (parks next ws es))
now_busy t next [] [] es c h n z = absurd (omega (arith, z))
now_busy t next [] (w ∷ ws) es c h n z = absurd (cc)
now_busy t next (j ∷ js) [] es c h n z = absurd (cc)
now_busy t next (j ∷ js) (w ∷ ws) [] c h n z = absurd (omega (arith, n))
now_busy t next (j ∷ js) (w ∷ ws) (e ∷ es) c h n z =
    let rest : map unanswered js ≡ map asks_for ws = cc in
    by (w.client == c) refl e (λ u more q. now_busy u more js ws es c rest (omega (arith, n)) q)
  where
    later : map unanswered js ≡ map asks_for ws
    later = cc

    one : unanswered j ≡ asks_for w
    one = cc

    own : j.who.client ≡ w.client
    own = ap (λ (q : Seg). q.who.client) one

    long : length es ≡ length js
    long = omega (arith, n)

    here : w.client ≡ c → (r : Option (List ℕ)) → busy_of (ended t j.who r).busy c ≡ called r
    here f r = subst (λ q. busy_of (ended t j.who r).busy q ≡ called r) (own ∙ f) (busy_here t j.who r)

    by : (b : Bool) → (w.client == c) ≡ b → (e : Ending)
        → ((u : ClientTable) (more : OfTiers ℕ) → asked c ws ≡ 1 → busy_of (all_ended u js (map kept_by es)).busy c ≡ is_some (parked_of c (parks more ws es)))
        → busy_of (all_ended t (j ∷ js) (map kept_by (e ∷ es))).busy c ≡ is_some (parked_of c (parks next (w ∷ ws) (e ∷ es)))
    by true f (Reply text) i = still (ended t j.who (Some text)) js ws es c later long (grind (arith, nat_tests, f, z))
        ∙ here (grind (arith, nat_tests, f)) (Some text) ∙ sym (none_parked next ws es c (grind (arith, nat_tests, f, z)))
    by true f (Call v stage text) i = still (ended t j.who None) js ws es c later long (grind (arith, nat_tests, f, z))
        ∙ here (grind (arith, nat_tests, f)) None ∙ sym (found (w.client == c) (park_by next w v stage text) (parked_of c (parks (bump next v) ws es)) f)
    by false f (Reply text) i = i (ended t j.who (Some text)) next (grind (arith, nat_tests, f, z))
    by false f (Call v stage text) i = i (ended t j.who None) (bump next v) (grind (arith, nat_tests, f, z))
        ∙ sym (past (w.client == c) (park_by next w v stage text) (parked_of c (parks (bump next v) ws es)) f)

-- WHO WAITS

either : (c : ℕ) (xs ys : List Parked) → is_some (parked_of c (xs ++ ys)) ≡ (is_some (parked_of c xs) || is_some (parked_of c ys))
either c [] ys = refl
either c (x ∷ xs) ys = by (x.client == c) (either c xs ys)
  where
    by : (b : Bool) → is_some (parked_of c (xs ++ ys)) ≡ (is_some (parked_of c xs) || is_some (parked_of c ys))
        → is_some (cond b (Some x) (parked_of c (xs ++ ys))) ≡ (is_some (cond b (Some x) (parked_of c xs)) || is_some (parked_of c ys))
    by true i = refl
    by false i = i

none_of : (c : ℕ) (ps : List Parked) → times c (map owner ps) ≡ 0 → is_some (parked_of c ps) ≡ false
none_of c [] z = refl
none_of c (p ∷ ps) z =
    let other : (p.client == c) ≡ false = grind (arith, nat_tests, z) in
    past (p.client == c) p (parked_of c ps) other ∙ none_of c ps (omega (arith, z))

-- the requests that are resumed are among those that are wanted
resumed_asked : (c : ℕ) (ps : List Parked) (fresh : List Entry) → times c (map owner ps) ≤ asked c (map resumed ps ++ map started fresh)
resumed_asked c [] fresh = omega arith
resumed_asked c (p ∷ ps) fresh = omega (arith, resumed_asked c ps fresh)

pub busy_ended : (t : ClientTable) (s : RoundsState) (fresh : List Entry) (js : List Seg) (es : List Ending) (c : ℕ) → IsInRange s → AreFresh s fresh
    → map unanswered js ≡ map asks_for (next_wants s fresh) → length es ≡ length js → is_some (parked_of c (concat s.queue)) ≡ busy_of t.busy c
    → is_some (parked_of c (concat (tail_of s.queue ++ parks s.numbers (next_wants s fresh) es ∷ []))) ≡ busy_of (all_ended t js (map kept_by es)).busy c
busy_ended t s fresh js es c range f h n was = by (asked c ws) refl
  where
    ws : List Want
    ws = next_wants s fresh

    tail : List Parked
    tail = concat (tail_of s.queue)

    split : is_some (parked_of c (concat (tail_of s.queue ++ parks s.numbers ws es ∷ [])))
        ≡ (is_some (parked_of c tail) || is_some (parked_of c (parks s.numbers ws es)))
    split = ap (λ z. is_some (parked_of c z)) (concat-push (tail_of s.queue) (parks s.numbers ws es)) ∙ either c tail (parks s.numbers ws es)

    before : is_some (parked_of c (concat s.queue)) ≡ (is_some (parked_of c (head_of s.queue)) || is_some (parked_of c tail))
    before = ap (λ z. is_some (parked_of c z)) (concat-head s.queue) ∙ either c (head_of s.queue) tail

    or_false : (b : Bool) → (b || false) ≡ b
    or_false true = refl
    or_false false = refl

    by : (k : ℕ) → asked c ws ≡ k
        → is_some (parked_of c (concat (tail_of s.queue ++ parks s.numbers ws es ∷ []))) ≡ busy_of (all_ended t js (map kept_by es)).busy c
    by zero z =
        split ∙ ap (λ b. is_some (parked_of c tail) || b) (none_parked s.numbers ws es c z) ∙ or_false (is_some (parked_of c tail))
        ∙ sym (ap (λ b. b || is_some (parked_of c tail)) (none_of c (head_of s.queue) (omega (arith, resumed_asked c (head_of s.queue) fresh, z))))
        ∙ sym before ∙ was ∙ sym (still t js ws es c h n z)
    by (suc k) z =
        split ∙ ap (λ b. b || is_some (parked_of c (parks s.numbers ws es))) (none_of c tail (omega (arith, one_each s fresh range f c, z)))
        ∙ sym (now_busy t s.numbers js ws es c h n (omega (arith, one_each s fresh range f c, z)))
