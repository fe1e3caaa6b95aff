-- What the segments of the next round want, where the tables and the batch are in range.
use Rattle.std.proofs.Common.{◌≡◌, ℕ, zero, suc, ◌≤◌, true, List, [], ◌∷◌, ◌++◌, length, map, refl, sym, ap, subst, arith, Option, Some, None}
use Rattle.std.specs.Prelude.{slice_get, IsSome}
use Rattle.std.proofs.lemmas.Option.{same_Some}
use Rattle.aeg_base.specs.declared.names.ReqId.{ReqId}
use Rattle.svc_api.specs.Requests.{IsRequest}
use Rattle.exec_model.specs.declared.job.Seg.{Seg}
use Rattle.log_model.proofs.Basics.{Every, every-append, every-get}
use Rattle.log_values.specs.declared.entry.Entry.{Entry}
use Rattle.log_values.specs.Fields.{IsText}
use Rattle.log_values.specs.Values.{FitsEntry}
use Rattle.round_model.specs.Lists.{is_some, and_then, concat, head_of, tail_of}
use Rattle.round_model.specs.Service.{Programs, Service}
use Rattle.round_model.specs.Tables.{Parked, Tables, Number, Want, Codes, who_of, resumed, started, wants, fresh_entries, as_seg, answered, job_of}
use Rattle.pipeline.specs.Jobs.{AreFresh}
use Rattle.pipeline.proofs.Entered.{fresh_ones}
use Rattle.pipeline.proofs.Wants.{IsAsking, concat-head, few_wants, wants_ask}
use Rattle.tier_laws.specs.Said.{IsJob}
use Rattle.tier_laws.proofs.Rounds.StableRounds.{then_parts}
use Rattle.tier_laws.proofs.Rounds.WantsDiffer.{fresh-at, is_fresh_parts}
use Rattle.row_laws.specs.Mids.{IsParkedIn, AreTablesIn, rounds_in}
use Rattle.row_laws.proofs.Lists.{every_left, every_right, every_all, every_from}

abbrev pub who_wants : Want → ReqId
who_wants w = record { client = w.client; seq = w.seq }

-- a segment of a request, at a stage that the request has
pub record IsWantIn (m : Programs) (w : Want) : Type 0 where
  pub asks : IsRequest (who_wants w)
  pub body : IsText w.body
  pub stage : IsSome (m.table (who_wants w) w.body w.stage)

pub some_there : {A : Type 0} (o : Option A) → is_some o ≡ true → IsSome o
some_there None e = absurd (cc)
some_there (Some a) e = refl

pub there_some : {A : Type 0} (o : Option A) → IsSome o → is_some o ≡ true
there_some None e = absurd (cc)
there_some (Some a) e = refl

pub resumed_in : (m : Programs) (ps : List Parked) → Every IsAsking (map resumed ps) → Every (IsParkedIn m) ps → Every (IsWantIn m) (map resumed ps)
resumed_in m [] a k = tt
resumed_in m (p ∷ ps) a k = (record { asks = a.0; body = k.0.body; stage = k.0.stage }, resumed_in m ps a.1 k.1)

-- a fresh entry has a text, and its request has a first stage
pub record IsStart (m : Programs) (e : Entry) : Type 0 where
  pub body : IsText e.body
  pub stage : IsSome (m.table (who_of e) e.body 0)

pub starts_in : {B : Type 0} (s : Service B) (T : Tables) (es : List Entry) → Every FitsEntry es → Every (IsStart s.programs) (fresh_entries s.programs T es)
starts_in s T es k = every_from (IsStart s.programs) (fresh_entries s.programs T es) (λ i e f.
    let was = fresh-at s T [] es i e f in
    record {
      body = (every-get FitsEntry es was.1.0 e k was.1.1).body;
      stage = some_there (s.programs.table (who_of e) e.body 0) (is_fresh_parts s T e was.0).body;
    })

pub started_in : (m : Programs) (es : List Entry) → Every IsAsking (map started es) → Every (IsStart m) es → Every (IsWantIn m) (map started es)
started_in m [] a k = tt
started_in m (e ∷ es) a k = (record { asks = a.0; body = k.0.body; stage = k.0.stage }, started_in m es a.1 k.1)

-- the fresh entries, by what is kept of the rounds
pub are_fresh : {B : Type 0} (s : Service B) (a : ℕ) (T : Tables) (es : List Entry) → AreFresh (rounds_in a T) (fresh_entries s.programs T es)
are_fresh s a T es = fresh_ones s.programs T (rounds_in a T) es refl

pub wants_in : {B : Type 0} (s : Service B) (depth a : ℕ) (T : Tables) (es : List Entry) → AreTablesIn s.programs depth a T → Every FitsEntry es
    → Every (IsWantIn s.programs) (wants s.programs T es)
wants_in s depth a T es k f =
    let fresh : List Entry = fresh_entries s.programs T es in
    let head : List Parked = head_of T.queue in
    let asks : Every IsAsking (map resumed head ++ map started fresh) =
    every_all IsAsking (map resumed head ++ map started fresh) (wants_ask (rounds_in a T) fresh k.rounds (are_fresh s a T es)) in
    let parked : Every (IsParkedIn s.programs) head =
    every_left (IsParkedIn s.programs) head (concat (tail_of T.queue)) (subst (Every (IsParkedIn s.programs)) (concat-head T.queue) k.parked) in
    every-append (IsWantIn s.programs) (map resumed head) (map started fresh)
    (resumed_in s.programs head (every_left IsAsking (map resumed head) (map started fresh) asks) parked)
    (started_in s.programs fresh (every_right IsAsking (map resumed head) (map started fresh) asks) (starts_in s T es f))

pub wants_few : {B : Type 0} (s : Service B) (depth a : ℕ) (T : Tables) (es : List Entry) → AreTablesIn s.programs depth a T
    → length (wants s.programs T es) ≤ 16
wants_few s depth a T es k = few_wants (rounds_in a T) (fresh_entries s.programs T es) k.rounds (are_fresh s a T es)

-- THE JOB

-- the segment is what is wanted, whatever its answer
pub record IsFor (w : Want) (j : Seg) : Type 0 where
  pub who : j.who ≡ who_wants w
  pub body : j.body ≡ w.body
  pub stage : j.stage ≡ w.stage

pub seg_for : (w : Want) (answer : Option ℕ) (j : Seg) → Some (as_seg w answer) ≡ Some j → IsFor w j
seg_for w answer j e = subst (IsFor w) (same_Some (as_seg w answer) j e) (record { who = refl; body = refl; stage = refl })

pub answered_for : (A : Codes) (w : Want) (k : Option Number) (j : Seg) → answered A w k ≡ Some j → IsFor w j
answered_for A w None j e = seg_for w None j e
answered_for A w (Some k) j e = let p = then_parts (A k.tier k.num) (λ code. Some (as_seg w (Some code))) j e in seg_for w (Some p.0) j p.2

-- segments and wants by their places
abbrev pub AreFor : List Want → List Seg → Type 0
AreFor [] [] = Unit {0}
AreFor [] (j ∷ js) = ⊥
AreFor (w ∷ ws) [] = ⊥
AreFor (w ∷ ws) (j ∷ js) = IsFor w j × AreFor ws js

pub job_for : (A : Codes) (ws : List Want) (J : List Seg) → job_of A ws ≡ Some J → AreFor ws J
job_for A [] J e = subst (AreFor []) (same_Some [] J e) tt
job_for A (w ∷ ws) J e =
    let p = then_parts (answered A w w.call) (λ j. and_then (job_of A ws) (λ js. Some (j ∷ js))) J e in
    let q = then_parts (job_of A ws) (λ js. Some (p.0 ∷ js)) J p.2 in
    subst (AreFor (w ∷ ws)) (same_Some (p.0 ∷ q.0) J q.2) (answered_for A w w.call p.0 p.1, job_for A ws q.0 q.1)

pub length_for : (ws : List Want) (J : List Seg) → AreFor ws J → length J ≡ length ws
length_for [] [] k = refl
length_for [] (j ∷ js) k = absurd k
length_for (w ∷ ws) [] k = absurd k
length_for (w ∷ ws) (j ∷ js) k = ap suc (length_for ws js k.1)

pub asked_for : (m : Programs) (ws : List Want) (J : List Seg) → AreFor ws J → Every (IsWantIn m) ws → (i : ℕ) (j : Seg) → slice_get J i ≡ Some j → IsRequest j.who
asked_for m [] [] k f i j e = absurd (cc)
asked_for m [] (x ∷ xs) k f i j e = absurd k
asked_for m (w ∷ ws) [] k f i j e = absurd k
asked_for m (w ∷ ws) (x ∷ xs) k f zero j e = let same : x ≡ j = cc in subst (λ (z : Seg). IsRequest z.who) same (subst IsRequest (sym k.0.who) f.0.asks)
asked_for m (w ∷ ws) (x ∷ xs) k f (suc i) j e = asked_for m ws xs k.1 f.1 i j e

pub job_in : (m : Programs) (ws : List Want) (J : List Seg) → AreFor ws J → length ws ≤ 16 → Every (IsWantIn m) ws → IsJob J
job_in m ws J k few f = record { short = omega (arith, few, length_for ws J k); asked = asked_for m ws J k f }
