-- The moves of a backend node.
use Rattle.std.proofs.Common.{◌≡◌, ℕ, ◌+◌, ◌-◌, ◌*◌, ◌<◌, ◌≤◌, Bool, true, false, cond, List, [], ◌∷◌, ◌++◌, length, refl, sym, ap, ◌∙◌, subst}
use Rattle.std.proofs.Common.{arith, Option, Some, None}
use Rattle.std.specs.Prelude.{slice_get, nat_lt, IfSome}
use Rattle.std.proofs.lemmas.Bool.{cond_both, lt-ltb, or_left}
use Rattle.std.proofs.lemmas.List.{length-append, length-map, length-drop}
use Rattle.aeg_base.specs.declared.names.End.{End}
use Rattle.aeg_base.specs.declared.names.Tier.{Tier}
use Rattle.aeg_base.specs.declared.names.Tier.TheVariants.{Mid as InMid, Inv, Pay}
use Rattle.svc_api.specs.Plan.{IsBackend}
use Rattle.log_model.specs.declared.message.PaxMsg.{PaxMsg}
use Rattle.log_model.specs.declared.turn.Offering.{Offering}
use Rattle.log_model.specs.declared.turn.Offering.TheVariants.{NotLeader, NoPromises, InFlight, LogFull, Taken, Free}
use Rattle.log_model.specs.Log.{LogState, Turn, nobody, open_at}
use Rattle.log_model.specs.Rows.{lead, offer, wants, on_msg}
use Rattle.log_model.specs.Ranges.{IsLogIn, IsTurnIn, IsOwnIn}
use Rattle.log_model.specs.Recover.{newest, recover}
use Rattle.log_model.proofs.Basics.{Every}
use Rattle.log_model.proofs.Ranged.{msg_in, lead_in, offer_in}
use Rattle.log_values.specs.declared.any_value.AnyValue.{AnyValue}
use Rattle.log_values.specs.declared.any_value.AnyValue.TheVariants.{Mid as OfMid, Back as OfBack}
use Rattle.log_values.specs.declared.back_value.BackValue.TheVariants.{Call, Settle}
use Rattle.log_values.specs.declared.fact.Fact.{Fact}
use Rattle.log_values.specs.Fields.{FitsBallot, IsCallNumber, IsFloor, IsText}
use Rattle.log_values.specs.Values.{FitsAny}
use Rattle.frames.specs.declared.message.Msg.{Msg}
use Rattle.frames.specs.declared.message.Msg.TheVariants as msgs
use Rattle.tier_model.specs.declared.turn.Turn.TheVariants.{Did, Idle as Idles}
use Rattle.tier_model.specs.declared.turn.Idle.TheVariants as why
use Rattle.frames.specs.LogMessages.{IsCarried, FitsLog}
use Rattle.frames.specs.Frames.{FitsFrame}
use Rattle.frames.specs.Headers.{end_index, is_sent_by_tier}
use Rattle.fact_journal.specs.Fitting.{Fit, all_facts, open_after_all}
use Rattle.round_model.specs.Lists.{is_some, each}
use Rattle.round_model.specs.Numbered.{find, from, last}
use Rattle.round_model.specs.Service.{Backend, Service}
use Rattle.round_model.specs.Held.{held_code}
use Rattle.round_model.specs.Shims.{copy_of, copies_at, ready}
use Rattle.round_model.specs.Shims.{rises_to, told_floor, due_floor, highest}
use Rattle.tier_model.specs.Moves.{as_fact, node, is_node_of, Packet, Move, idles, drops, log_packets, log_packet, asks, log_facts}
use Rattle.tier_model.specs.Back.{Back, with_log, answer_to, passes, after_value, new_value, value_state, value_tells, in_log}
use Rattle.tier_model.specs.BackRows.{copied, call_as, on_call, on_settle, on_frame, leads, own_value, offers_as, offers, answers_again}
use Rattle.tier_model.specs.BackRows.{retry, after_values, bare, recovered}
use Rattle.row_laws.specs.Services.{IsBackendIn}
use Rattle.server_shim.specs.Ranges.{IsCode}
use Rattle.server_shim.proofs.Lists.{find_in}
use Rattle.server_shim.proofs.Ranged.{serves_in, settles_in, notes_in, told_in, new_in, ready_in, settled_in, highest_in}
use Rattle.row_laws.specs.Backs.{IsBackIn}
use Rattle.row_laws.specs.Moves.{Takes, IsTaken, IsSealable, IsMoveTo}
use Rattle.row_laws.proofs.Lists.{each_few}
use Rattle.row_laws.proofs.FewMessages.{few_facts, IsFew, msg_few, lead_few, offer_few}
use Rattle.row_laws.proofs.LogTurns.{sender_is, taken_if, taken_either, message_in, AreGood, none_good, both_good, each_good, log_good, asks_good}
use Rattle.row_laws.proofs.LogTurns.{asks_few, turn_facts, written_opens, may_raise}
use Rattle.row_laws.proofs.Moving.{telling, quiet, either}
use Rattle.row_laws.proofs.Restored.{log_restored, log_opens, all_carried}
use Rattle.tier_model.proofs.Carried.{own_carried}

-- a move of a backend's node x
abbrev pub IsBackMove : {B : Type 0} → Service B → ℕ → ℕ → Tier → ℕ → Back B → Move (Back B) → Type 0
IsBackMove {B} s u depth t x σ move = IsMoveTo (IsBackIn {B = B} u t) (λ (z : Back B). z.log) (IsTaken s u depth) t x σ move

-- a value is taken
after_in : {B : Type 0} (b : Backend B) (u : ℕ) (t : Tier) (σ : Back B) (v : AnyValue) → IsBackendIn b → IsBackIn u t σ → FitsAny v
    → IsBackIn u t (after_value b σ v)
after_in b u t σ (OfMid v) codes k f = k
after_in b u t σ (OfBack (Call n text)) codes k f =
    cond_both (passes σ n) _ _ (IsBackIn u t) (λ e. k) (λ e. record {
      log = k.log;
      shim = serves_in u σ.shim n (b.serve σ.state text).code k.shim
          (f.0, codes σ.state text);
    })
after_in b u t σ (OfBack (Settle g)) codes k f = record { log = k.log; shim = settles_in u σ.shim g k.shim (omega (arith, f.0), f.1) }

after_log : {B : Type 0} (b : Backend B) (σ : Back B) (v : AnyValue) → (after_value b σ v).log ≡ σ.log
after_log {B} b σ (OfMid v) = refl
after_log {B} b σ (OfBack (Call n text)) = cond_both (passes σ n) _ _ (λ (z : Back B). z.log ≡ σ.log) (λ e. refl) (λ e. refl)
after_log b σ (OfBack (Settle g)) = refl

-- ANSWERS

answer_sent : (t : Tier) → IsBackend t → is_sent_by_tier t 11 ≡ true
answer_sent InMid b = absurd b
answer_sent Inv b = refl
answer_sent Pay b = refl

answer_taken : {B : Type 0} (s : Service B) (u depth : ℕ) (t : Tier) (x y n code : ℕ) → IsBackend t → x < 2 * u + 1 → y < 2 * u + 1
    → Takes s u depth (node InMid y) (node t x) (msgs.Answer n code)
answer_taken s u depth InMid x y n code b l m = absurd b
answer_taken s u depth Inv x y n code b l m =
    (m, λ σ. taken_if _ _ _ (or_left (nat_lt x (2 * u + 1)) false (lt-ltb x (2 * u + 1) l)) (taken_either (is_some (held_code σ.held Inv n)) _ _ refl refl))
answer_taken s u depth Pay x y n code b l m = (m, λ σ. taken_if _ _ _ (lt-ltb x (2 * u + 1) l) (taken_either (is_some (held_code σ.held Pay n)) _ _ refl refl))

answer_sealed : (t : Tier) (u x n code y : ℕ) → IsBackend t → u ≤ 2 → x < 2 * u + 1 → IsCode (n, code) → IsSealable (node t x) (answer_to t x n code y)
answer_sealed t u x n code y b small l c = record { own = refl; fits = record { sender = omega (arith, small, l); sent = answer_sent t b; message = c } }

answers_good : {B : Type 0} (s : Service B) (u depth : ℕ) (t : Tier) (x n code : ℕ) → IsBackend t → u ≤ 2 → x < 2 * u + 1 → IsCode (n, code)
    → AreGood s u depth t x (each (2 * u + 1) nobody (answer_to t x n code))
answers_good s u depth t x n code b small l c =
    each_good s u depth t x (2 * u + 1) nobody (answer_to t x n code) (λ y m. answer_taken s u depth t x y n code b l m)
    (λ y m. answer_sealed t u x n code y b small l c)

-- TURNS OF THE LOG

-- what a turn learns has a spelling
abbrev IsNews : Option AnyValue → Type 0
IsNews o = IfSome o FitsAny

news_in : (t : Tier) (old new : LogState AnyValue) → IsLogIn (IsCarried t) FitsBallot new → IsNews (new_value old new)
news_in t old new k = cond_both (nat_lt (length old.learned) (length new.learned)) _ _ IsNews (λ e. go (slice_get new.learned (length old.learned)) refl)
    (λ e. tt)
  where
    go : (o : Option AnyValue) → slice_get new.learned (length old.learned) ≡ o → IsNews o
    go None e = tt
    go (Some v) e = (k.learned (length old.learned) v e).0

value_in : {B : Type 0} (b : Backend B) (u : ℕ) (t : Tier) (σ : Back B) (o : Option AnyValue) → IsBackendIn b → IsBackIn u t σ → IsNews o
    → IsBackIn u t (value_state b σ o)
value_in b u t σ None codes k f = k
value_in b u t σ (Some v) codes k f = after_in b u t σ v codes k f

value_log : {B : Type 0} (b : Backend B) (σ : Back B) (o : Option AnyValue) → (value_state b σ o).log ≡ σ.log
value_log b σ None = refl
value_log b σ (Some v) = after_log b σ v

-- the answers that a value brings: there are as many as middle nodes
record AreTold {B : Type 0} (s : Service B) (u depth : ℕ) (t : Tier) (x : ℕ) (ks : List Packet) : Type 0 where
  pub good : AreGood s u depth t x ks
  pub few : length ks ≤ 2 * u + 1

value_told : {B : Type 0} (s : Service B) (u depth : ℕ) (t : Tier) (x : ℕ) (σ : Back B) (o : Option AnyValue) → IsBackend t → u ≤ 2 → x < 2 * u + 1
    → IsBackendIn (s.backend t) → IsNews o → AreTold s u depth t x (value_tells u (s.backend t) t x σ o)
value_told s u depth t x σ None b small l codes f = record { good = none_good s u depth t x; few = omega arith }
value_told s u depth t x σ (Some (OfMid v)) b small l codes f = record { good = none_good s u depth t x; few = omega arith }
value_told s u depth t x σ (Some (OfBack (Call n text))) b small l codes f =
    cond_both (passes σ n) _ _ (AreTold s u depth t x) (λ e. record { good = none_good s u depth t x; few = omega arith }) (λ e. record {
      good = answers_good s u depth t x n ((s.backend t).serve σ.state text).code b small l (f.0, codes σ.state text);
      few = each_few (2 * u + 1) nobody (answer_to t x n ((s.backend t).serve σ.state text).code);
    })
value_told s u depth t x σ (Some (OfBack (Settle g))) b small l codes f = record { good = none_good s u depth t x; few = omega arith }

turn_in : {B : Type 0} (s : Service B) (u depth : ℕ) (t : Tier) (x : ℕ) (σ : Back B) (turn : Turn AnyValue) → IsBackend t → u ≤ 2 → x < 2 * u + 1
    → IsBackendIn (s.backend t) → IsBackIn u t σ
    → IsFew u σ.log turn → IsTurnIn u (IsCarried t) FitsBallot turn → IsBackMove s u depth t x σ (in_log u (s.backend t) t x σ turn)
turn_in {B} s u depth t x σ turn b small l codes k few i =
    let now : Back B = with_log σ turn.state in
    let news : Option AnyValue = new_value σ.log turn.state in
    let new : IsNews news = news_in t σ.log turn.state i.state in
    let told = value_told s u depth t x now news b small l codes new in
    let good = both_good s u depth t x (log_packets t x turn.sends) (value_tells u (s.backend t) t x now news)
    (log_good s u depth t x turn.sends small l i.sends) told.good in
    record {
      state = value_in (s.backend t) u t now news codes (record { log = i.state; shim = k.shim }) new;
      taken = good.0;
      sealable = good.1;
      few = omega (
        arith,
        small,
        few.most,
        told.few,
        length-map turn.sends (log_packet t x),
        length-append (log_packets t x turn.sends)
            (value_tells u (s.backend t) t x now news),
      );
      short = omega (arith, few_facts (open_at σ.log) (open_at turn.state) turn.facts few.written, length-map turn.facts as_fact);
      facts = turn_facts u t σ.log turn few i;
      opens = ap open_at (value_log (s.backend t) now news) ∙ written_opens (open_at σ.log) (open_at turn.state) turn.facts few.written;
    }

-- FRAMES

-- a message of the tier's log
pub log_sent : (u : ℕ) (t : Tier) (from : End) (p : PaxMsg AnyValue) → is_node_of u t from ≡ true → FitsFrame from (msgs.Log p)
    → (end_index from < 2 * u + 1) × FitsLog t p
log_sent u t from p e f =
    let y = sender_is u t from e in
    let g : FitsFrame (node t y.0) (msgs.Log p) = subst (λ z. FitsFrame z (msgs.Log p)) y.2 f in
    (subst (λ z. end_index z < 2 * u + 1) (sym y.2) y.1, g.message)

call_in : {B : Type 0} (s : Service B) (u depth : ℕ) (t : Tier) (x : ℕ) (σ : Back B) (y n : ℕ) (text : List ℕ) → IsBackend t → u ≤ 2 → x < 2 * u + 1
    → y < 2 * u + 1 → IsBackIn u t σ → IsCallNumber n → IsText text → IsBackMove s u depth t x σ (on_call t x σ y n text)
call_in {B} s u depth t x σ y n text b small l m k c f =
    still (nat_lt n σ.shim.floor) _ _ (λ e. nothing σ k refl)
    (λ e. kept (find σ.shim.kept n) (find_in IsCode (λ code. code < 256) σ.shim.kept n (λ q code z. z.1) k.shim.kept))
  where
    still : (b : Bool) (p q : Move (Back B)) → (b ≡ true → IsBackMove s u depth t x σ p) → (b ≡ false → IsBackMove s u depth t x σ q)
        → IsBackMove s u depth t x σ (cond b p q)
    still = either (IsBackIn u t) (λ (z : Back B). z.log) (IsTaken s u depth) t x σ

    nothing : (new : Back B) → IsBackIn u t new → new.log ≡ σ.log
        → IsBackMove s u depth t x σ (record { state = new; facts = []; sends = []; answer = Idles why.Nothing })
    nothing new i same = quiet (IsBackIn u t) (λ (z : Back B). z.log) (IsTaken s u depth) t x σ new (Idles why.Nothing) i same

    kept : (o : Option ℕ) → IfSome o (λ code. code < 256) → IsBackMove s u depth t x σ (call_as t x σ y n text o)
    kept None h = still (is_some (copy_of (copies_at σ.shim n) y)) _ _ (λ e. nothing σ k refl)
        (λ e. quiet (IsBackIn u t) (λ (z : Back B). z.log) (IsTaken s u depth) t x σ (copied σ y n text) Did
        (record { log = k.log; shim = notes_in u σ.shim y n text k.shim c f }) refl)
    kept (Some code) h = telling (IsBackIn u t) (λ (z : Back B). z.log) (IsTaken s u depth) t x σ σ (answer_to t x n code y ∷ []) Did k refl
        ((answer_taken s u depth t x y n code b l m, tt), (answer_sealed t u x n code y b small l (c, h), tt)) (omega arith)

settle_in : {B : Type 0} (s : Service B) (u depth : ℕ) (t : Tier) (x : ℕ) (σ : Back B) (y g : ℕ) → IsBackIn u t σ → IsFloor g
    → IsBackMove s u depth t x σ (on_settle σ y g)
settle_in {B} s u depth t x σ y g k f = either (IsBackIn u t) (λ (z : Back B). z.log) (IsTaken s u depth) t x σ (rises_to σ.shim y g) _ _
    (λ e. quiet (IsBackIn u t) (λ (z : Back B). z.log) (IsTaken s u depth) t x σ (record σ { shim = told_floor σ.shim y g }) Did
    (record { log = k.log; shim = told_in u σ.shim y g k.shim (omega (arith, f.0), f.1) }) refl)
    (λ e. quiet (IsBackIn u t) (λ (z : Back B). z.log) (IsTaken s u depth) t x σ σ (Idles why.Nothing) k refl)

pub frame_in : {B : Type 0} (s : Service B) (u depth : ℕ) (t : Tier) (x : ℕ) (σ : Back B) (from : End) (message : Msg) → u ≤ 2 → x < 2 * u + 1 → IsBackend t
    → IsBackendIn (s.backend t) → IsBackIn u t σ → FitsFrame from message
    → IsBackMove s u depth t x σ (on_frame u (s.backend t) t x σ from message)
frame_in {B} s u depth t x σ from message small l b codes k f = go message f
  where
    dropped : (row : ℕ) → IsBackMove s u depth t x σ (drops σ row)
    dropped row = quiet (IsBackIn u t) (λ (z : Back B). z.log) (IsTaken s u depth) t x σ σ _ k refl

    go : (message : Msg) → FitsFrame from message → IsBackMove s u depth t x σ (on_frame u (s.backend t) t x σ from message)
    go (msgs.Log p) f = either (IsBackIn u t) (λ (z : Back B). z.log) (IsTaken s u depth) t x σ (is_node_of u t from) _ _
        (λ e. let g = log_sent u t from p e f in
        turn_in s u depth t x σ (on_msg u σ.log (end_index from) p) b small l codes k (msg_few u σ.log (end_index from) p)
        (msg_in u (IsCarried t) FitsBallot σ.log (end_index from) p g.0 k.log (message_in t p g.1)))
        (λ e. dropped 7)
    go (msgs.Call n text) f = either (IsBackIn u t) (λ (z : Back B). z.log) (IsTaken s u depth) t x σ (is_node_of u InMid from) _ _
        (λ e. let y = sender_is u InMid from e in
        call_in s u depth t x σ (end_index from) n text b small l (subst (λ z. end_index z < 2 * u + 1) (sym y.2) y.1) k f.message.0 f.message.1)
        (λ e. dropped 7)
    go (msgs.Settle g) f = either (IsBackIn u t) (λ (z : Back B). z.log) (IsTaken s u depth) t x σ (is_node_of u InMid from) _ _
        (λ e. settle_in s u depth t x σ (end_index from) g k f.message) (λ e. dropped 7)
    go (msgs.Request seq body) f = dropped 7
    go (msgs.Reply who body) f = dropped 7
    go (msgs.Token r token order) f = dropped 7
    go (msgs.Answer n code) f = dropped 7
    go (msgs.Have v n code) f = dropped 7

-- LEADING AND OFFERING

pub leads_in : {B : Type 0} (s : Service B) (u depth : ℕ) (t : Tier) (x : ℕ) (σ : Back B) → u ≤ 2 → x < 2 * u + 1 → IsBackend t → IsBackendIn (s.backend t)
    → IsBackIn u t σ → IsBackMove s u depth t x σ (leads u (s.backend t) t x σ)
leads_in s u depth t x σ small l b codes k =
    turn_in s u depth t x σ (lead u x σ.log) b small l codes k (lead_few u x σ.log)
    (lead_in u (IsCarried t) FitsBallot x σ.log (may_raise x (omega (arith, small, l))) k.log)

own_in : {B : Type 0} (u : ℕ) (t : Tier) (p : ℕ) (σ : Back B) → IsBackend t → IsBackIn u t σ → IsOwnIn (IsCarried t) p (own_value σ)
own_in u t p σ b k = own_carried t p (ready σ.shim) (due_floor σ.shim) b (ready_in u σ.shim k.shim) (settled_in u σ.shim k.shim)

pub offers_in : {B : Type 0} (s : Service B) (u depth : ℕ) (t : Tier) (x : ℕ) (σ : Back B) → u ≤ 2 → x < 2 * u + 1 → IsBackend t → IsBackendIn (s.backend t)
    → IsBackIn u t σ → IsBackMove s u depth t x σ (offers u (s.backend t) t x σ)
offers_in {B} s u depth t x σ small l b codes k = go (wants u σ.log)
  where
    offered : IsBackMove s u depth t x σ (in_log u (s.backend t) t x σ (offer u x σ.log (own_value σ)))
    offered = turn_in s u depth t x σ (offer u x σ.log (own_value σ)) b small l codes k (offer_few u x σ.log (own_value σ))
        (offer_in u (IsCarried t) FitsBallot x σ.log (own_value σ) k.log (own_in u t (open_at σ.log) σ b k))

    idle : (cause : _) → IsBackMove s u depth t x σ (idles σ cause)
    idle cause = quiet (IsBackIn u t) (λ (z : Back B). z.log) (IsTaken s u depth) t x σ σ (Idles cause) k refl

    go : (w : Offering) → IsBackMove s u depth t x σ (offers_as u (s.backend t) t x σ w)
    go NotLeader = idle why.NotLeader
    go (NoPromises have) = idle (why.NoPromises have)
    go (InFlight p) = idle (why.InFlight p)
    go LogFull = idle why.LogFull
    go Taken = offered
    go (Free p) = either (IsBackIn u t) (λ (z : Back B). z.log) (IsTaken s u depth) t x σ (is_some (own_value σ)) _ _ (λ e. offered) (λ e. idle why.Nothing)

-- RETRY AND RESTART

again_good : {B : Type 0} (s : Service B) (u depth : ℕ) (t : Tier) (x : ℕ) (es : List (ℕ × ℕ)) → IsBackend t → u ≤ 2 → x < 2 * u + 1 → Every IsCode es
    → AreGood s u depth t x (answers_again u t x es)
again_good s u depth t x [] b small l k = none_good s u depth t x
again_good s u depth t x (e ∷ es) b small l k =
    both_good s u depth t x (each (2 * u + 1) nobody (answer_to t x e.0 e.1)) (answers_again u t x es) (answers_good s u depth t x e.0 e.1 b small l k.0)
    (again_good s u depth t x es b small l k.1)

again_few : (u : ℕ) (t : Tier) (x : ℕ) (es : List (ℕ × ℕ)) → u ≤ 2 → length (answers_again u t x es) ≤ 5 * length es
again_few u t x [] small = omega arith
again_few u t x (e ∷ es) small =
    omega (
      arith,
      small,
      length-append (each (2 * u + 1) nobody (answer_to t x e.0 e.1)) (answers_again u t x es),
      each_few (2 * u + 1) nobody
          (answer_to t x e.0 e.1),
      again_few u t x es small,
    )

pub last_few : {A : Type 0} (n : ℕ) (es : List (ℕ × A)) → length (last n es) ≤ n
last_few n es = omega (arith, length-drop (length es - n) es)

pub retry_in : {B : Type 0} (s : Service B) (u depth : ℕ) (t : Tier) (x : ℕ) (σ : Back B) → u ≤ 2 → x < 2 * u + 1 → IsBackend t → IsBackIn u t σ
    → IsBackMove s u depth t x σ (retry u t x σ)
retry_in {B} s u depth t x σ small l b k =
    let asked = log_packets t x (asks u x (open_at σ.log)) in
    let told = answers_again u t x (highest σ.shim) in
    telling (IsBackIn u t) (λ (z : Back B). z.log) (IsTaken s u depth) t x σ σ (asked ++ told) Did k refl
    (both_good s u depth t x asked told (asks_good s u depth t x σ.log small l k.log)
    (again_good s u depth t x (highest σ.shim) b small l (highest_in u σ.shim k.shim)))
    (omega (arith, small, length-append asked told, asks_few u t x (open_at σ.log) l, again_few u t x (highest σ.shim) small, last_few 16 σ.shim.kept))

values_in : {B : Type 0} (b : Backend B) (u : ℕ) (t : Tier) (σ : Back B) (vs : List AnyValue) → IsBackendIn b → IsBackIn u t σ → Every FitsAny vs
    → IsBackIn u t (after_values b σ vs)
values_in b u t σ [] codes k f = k
values_in b u t σ (v ∷ vs) codes k f = values_in b u t (after_value b σ v) vs codes (after_in b u t σ v codes k f.0) f.1

values_log : {B : Type 0} (b : Backend B) (σ : Back B) (vs : List AnyValue) → (after_values b σ vs).log ≡ σ.log
values_log b σ [] = refl
values_log b σ (v ∷ vs) = values_log b (after_value b σ v) vs ∙ after_log b σ v

pub recovered_in : {B : Type 0} (s : Service B) (u : ℕ) (t : Tier) (rs : List (List Fact)) → IsBackendIn (s.backend t) → Fit t rs
    → IsBackIn u t (recovered u (s.backend t) (newest rs))
recovered_in s u t rs codes fit =
    let log = log_restored u t rs fit in
    let vs : List AnyValue = (recover u (log_facts (newest rs))).learned in
    values_in (s.backend t) u t (bare u (s.backend t) (newest rs)) vs codes (record { log = log; shim = new_in u })
    (all_carried t 0 vs (λ p v e. (p, log.learned p v e)))

pub recovered_opens : {B : Type 0} (s : Service B) (u : ℕ) (t : Tier) (rs : List (List Fact))
    → open_at (recovered u (s.backend t) (newest rs)).log ≡ open_after_all 0 (all_facts rs)
recovered_opens s u t rs = ap open_at (values_log (s.backend t) (bare u (s.backend t) (newest rs)) (recover u (log_facts (newest rs))).learned) ∙ log_opens u rs
