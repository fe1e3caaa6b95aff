-- What the segments of the next round want: they are at most 16, each of a request, and no two of one client.
use Rattle.std.proofs.Common.{◌≡◌, ℕ, suc, ◌+◌, ◌≤◌, List, [], ◌∷◌, ◌++◌, map, length, refl, sym, ap, ◌∙◌, subst, append_assoc}
use Rattle.std.proofs.Common.{append-nil, arith}
use Rattle.std.specs.List.{All}
use Rattle.std.proofs.lemmas.List.Elements.{All-nil, All-cons, All-head, All-tail, All-append}
use Rattle.svc_api.specs.Requests.{IsRequest}
use Rattle.exec_model.specs.declared.job.Seg.{Seg}
use Rattle.log_values.specs.declared.entry.Entry.{Entry}
use Rattle.round_model.specs.Lists.{concat, head_of, tail_of}
use Rattle.round_model.specs.Service.{times}
use Rattle.round_model.specs.Tables.{Parked, Want, resumed, started}
use Rattle.pipeline.specs.States.{RoundsState, next_wants}
use Rattle.pipeline.specs.Kept.{IsInRange, IsWaiting, owner}
use Rattle.pipeline.specs.Jobs.{AreFresh, IsAsked, IsFree, asks_for, client_of, unanswered}
use Rattle.pipeline.proofs.Clients.{at_most_16, once_all, times-append}

-- LISTS

pub concat-head : {A : Type 0} (q : List (List A)) → concat q ≡ head_of q ++ concat (tail_of q)
concat-head [] = refl
concat-head (g ∷ gs) = refl

pub concat-push : {A : Type 0} (q : List (List A)) (g : List A) → concat (q ++ g ∷ []) ≡ concat q ++ g
concat-push [] g = append-nil g
concat-push (h ∷ q) g = ap (λ z. h ++ z) (concat-push q g) ∙ sym (append_assoc h (concat q) g)

all_left : {X : Type 0} (P : X → Type 0) (xs ys : List X) → All P (xs ++ ys) → All P xs
all_left P [] ys h = All-nil P
all_left P (x ∷ xs) ys h = All-cons P x xs (All-head P x (xs ++ ys) h) (all_left P xs ys (All-tail P x (xs ++ ys) h))

pub all_right : {X : Type 0} (P : X → Type 0) (xs ys : List X) → All P (xs ++ ys) → All P ys
all_right P [] ys h = h
all_right P (x ∷ xs) ys h = all_right P xs ys (All-tail P x (xs ++ ys) h)

-- EACH IS OF A REQUEST

abbrev pub IsAsking : Want → Type 0
IsAsking w = IsRequest (record { client = w.client; seq = w.seq })

resumed_ask : (ps : List Parked) → All IsWaiting ps → All IsAsking (map resumed ps)
resumed_ask [] h = All-nil IsAsking
resumed_ask (p ∷ ps) h =
    let rest : All IsAsking (map resumed ps) = resumed_ask ps (All-tail IsWaiting p ps h) in
    All-cons IsAsking (resumed p) (map resumed ps) (All-head IsWaiting p ps h) rest

started_ask : (qs : List Parked) (es : List Entry) → All (IsFree qs) es → All IsAsking (map started es)
started_ask qs [] h = All-nil IsAsking
started_ask qs (e ∷ es) h =
    let here : IsFree qs e = All-head (IsFree qs) e es h in
    let rest : All IsAsking (map started es) = started_ask qs es (All-tail (IsFree qs) e es h) in
    All-cons IsAsking (started e) (map started es) here.request rest

pub wants_ask : (s : RoundsState) (fresh : List Entry) → IsInRange s → AreFresh s fresh → All IsAsking (next_wants s fresh)
wants_ask s fresh k f =
    let head : List Parked = head_of s.queue in
    let all : All IsWaiting (head ++ concat (tail_of s.queue)) = subst (All IsWaiting) (concat-head s.queue) k.requests in
    let waits : All IsWaiting head = all_left IsWaiting head (concat (tail_of s.queue)) all in
    let waited : All IsAsking (map resumed head) = resumed_ask head waits in
    All-append IsAsking (map resumed head) (map started fresh) waited (started_ask (concat s.queue) fresh f.free)

-- NO TWO ARE OF ONE CLIENT

abbrev pub wanter : Want → ℕ
wanter w = w.client

wanters : (ps : List Parked) (es : List Entry) → map wanter (map resumed ps ++ map started es) ≡ map owner ps ++ map client_of es
wanters [] [] = refl
wanters [] (e ∷ es) = ap (λ cs. e.client ∷ cs) (wanters [] es)
wanters (p ∷ ps) es = ap (λ cs. p.client ∷ cs) (wanters ps es)

map-append-owner : (xs ys : List Parked) → map owner (xs ++ ys) ≡ map owner xs ++ map owner ys
map-append-owner [] ys = refl
map-append-owner (x ∷ xs) ys = ap (λ cs. x.client ∷ cs) (map-append-owner xs ys)

pub owners : (c : ℕ) (xs ys : List Parked) → times c (map owner (xs ++ ys)) ≡ times c (map owner xs) + times c (map owner ys)
owners c xs ys = ap (times c) (map-append-owner xs ys) ∙ times-append c (map owner xs) (map owner ys)

-- how often a client waits in later rounds, or is wanted in the next one
abbrev pub holds : RoundsState → List Entry → ℕ → ℕ
holds s fresh c = times c (map owner (concat (tail_of s.queue))) + times c (map wanter (next_wants s fresh))

pub one_each : (s : RoundsState) (fresh : List Entry) → IsInRange s → AreFresh s fresh → (c : ℕ) → holds s fresh c ≤ 1
one_each s fresh k f c =
    let head : List Parked = head_of s.queue in
    let tail : List Parked = concat (tail_of s.queue) in
    let all : times c (map owner (concat s.queue)) + times c (map client_of fresh) ≤ 1 =
    once_all (concat s.queue) fresh f.free k.once f.once c in
    let waits : times c (map owner (concat s.queue)) ≡ times c (map owner head) + times c (map owner tail) =
    ap (λ ps. times c (map owner ps)) (concat-head s.queue) ∙ owners c head tail in
    let asks : times c (map wanter (next_wants s fresh)) ≡ times c (map owner head) + times c (map client_of fresh) =
    ap (times c) (wanters head fresh) ∙ times-append c (map owner head) (map client_of fresh) in
    omega arith

-- THERE ARE AT MOST 16

length-wanter : (ws : List Want) → length (map wanter ws) ≡ length ws
length-wanter [] = refl
length-wanter (w ∷ ws) = ap suc (length-wanter ws)

abbrev IsClient : ℕ → Type 0
IsClient x = (1 ≤ x) × (x ≤ 16)

within : (ws : List Want) → All IsAsking ws → All IsClient (map wanter ws)
within [] h = All-nil IsClient
within (w ∷ ws) h =
    let here : IsAsking w = All-head IsAsking w ws h in
    All-cons IsClient w.client (map wanter ws) (here.client_low, here.client_high) (within ws (All-tail IsAsking w ws h))

pub few_wants : (s : RoundsState) (fresh : List Entry) → IsInRange s → AreFresh s fresh → length (next_wants s fresh) ≤ 16
few_wants s fresh k f =
    let clients : List ℕ = map wanter (next_wants s fresh) in
    let all : All IsClient clients = within (next_wants s fresh) (wants_ask s fresh k f) in
    let most : length clients ≤ 16 = at_most_16 clients all (λ c. omega (arith, one_each s fresh k f c)) in
    omega (arith, length-wanter (next_wants s fresh))

-- THEIR SEGMENTS

pub same_length : (js : List Seg) (ws : List Want) → map unanswered js ≡ map asks_for ws → length js ≡ length ws
same_length [] [] h = refl
same_length [] (w ∷ ws) h = absurd (cc)
same_length (j ∷ js) [] h = absurd (cc)
same_length (j ∷ js) (w ∷ ws) h = let rest : map unanswered js ≡ map asks_for ws = cc in ap suc (same_length js ws rest)

asked_of : (js : List Seg) (ws : List Want) → map unanswered js ≡ map asks_for ws → All IsAsking ws → All IsAsked js
asked_of [] ws h a = All-nil IsAsked
asked_of (j ∷ js) [] h a = absurd (cc)
asked_of (j ∷ js) (w ∷ ws) h a =
    let one : unanswered j ≡ asks_for w = cc in
    let rest : map unanswered js ≡ map asks_for ws = cc in
    let who : j.who ≡ record { client = w.client; seq = w.seq } = ap (λ (z : Seg). z.who) one in
    let here : IsAsked j = subst IsRequest (sym who) (All-head IsAsking w ws a) in
    All-cons IsAsked j js here (asked_of js ws rest (All-tail IsAsking w ws a))

-- these segments are those of the next round
abbrev pub AreNext : RoundsState → List Entry → List Seg → Type 0
AreNext s fresh js = map unanswered js ≡ map asks_for (next_wants s fresh)

pub few_segs : (s : RoundsState) (fresh : List Entry) (js : List Seg) → IsInRange s → AreFresh s fresh → AreNext s fresh js → length js ≤ 16
few_segs s fresh js k f h = omega (arith, few_wants s fresh k f, same_length js (next_wants s fresh) h)

pub asked_segs : (s : RoundsState) (fresh : List Entry) (js : List Seg) → IsInRange s → AreFresh s fresh → AreNext s fresh js → All IsAsked js
asked_segs s fresh js k f h = asked_of js (next_wants s fresh) h (wants_ask s fresh k f)
