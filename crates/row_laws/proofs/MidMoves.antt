-- The moves of a middle node.
use Rattle.std.proofs.Common.{◌≡◌, ℕ, zero, suc, ◌+◌, ◌*◌, ◌<◌, ◌≤◌, ◌%◌, Bool, true, false, cond, List, [], ◌∷◌, length, length-append, refl, sym}
use Rattle.std.proofs.Common.{ap, ◌∙◌, subst, arith, Option, Some, None}
use Rattle.std.specs.Prelude.{nat_lt, ◌==◌, ◌&&◌, ◌||◌, not, IfSome}
use Rattle.std.proofs.lemmas.Bool.{cond_both, eq-eqb}
use Rattle.std.proofs.lemmas.List.{length-map}
use Rattle.aeg_base.specs.declared.names.End.{End}
use Rattle.aeg_base.specs.declared.names.End.TheVariants.{Node, Client}
use Rattle.aeg_base.specs.declared.names.Tier.{Tier}
use Rattle.aeg_base.specs.declared.names.Tier.TheVariants.{Mid as InMid, Inv, Pay}
use Rattle.svc_api.specs.Plan.{IsBackend}
use Rattle.log_model.specs.declared.fact.Fact.{Fact as LogFact}
use Rattle.log_model.specs.declared.fact.Fact.TheVariants as logs
use Rattle.log_model.specs.declared.turn.Offering.{Offering}
use Rattle.log_model.specs.declared.turn.Offering.TheVariants.{NotLeader, NoPromises, InFlight, LogFull, Taken, Free}
use Rattle.log_model.specs.Log.{Turn, is, open_at}
use Rattle.log_model.specs.Rows.{lead, offer, wants as log_wants, on_msg}
use Rattle.log_model.specs.Ranges.{IsTurnIn, IsOwnIn}
use Rattle.log_model.proofs.Basics.{Every}
use Rattle.log_model.proofs.Ranged.{msg_in, lead_in, offer_in}
use Rattle.log_values.specs.declared.any_value.AnyValue.{AnyValue}
use Rattle.log_values.specs.declared.any_value.AnyValue.TheVariants.{Mid as OfMid}
use Rattle.log_values.specs.declared.entry.Entry.{Entry}
use Rattle.log_values.specs.declared.mid_value.MidValue.TheVariants.{Batch, Verdict as Decided}
use Rattle.log_values.specs.declared.mid_value.Verdict.{Verdict}
use Rattle.log_values.specs.Fields.{FitsBallot, IsCallNumber, IsClient, IsSeq, IsText}
use Rattle.log_values.specs.Outcomes.{IsCommit}
use Rattle.log_values.specs.Values.{FitsEntry, FitsMid}
use Rattle.frames.specs.declared.message.Msg.{Msg}
use Rattle.frames.specs.declared.message.Msg.TheVariants as msgs
use Rattle.tier_model.specs.declared.turn.Turn.TheVariants.{Did, Ran, Idle as Idles}
use Rattle.tier_model.specs.declared.turn.Idle.{Idle}
use Rattle.tier_model.specs.declared.turn.Idle.TheVariants as why
use Rattle.frames.specs.LogMessages.{IsCarried}
use Rattle.frames.specs.Frames.{FitsFrame}
use Rattle.frames.specs.Headers.{end_index}
use Rattle.round_model.specs.declared.claim.Claim.{Claim}
use Rattle.round_model.specs.Lists.{is_some, is_nil, and_then, concat, each, lowest, odd, half}
use Rattle.round_model.specs.Service.{Programs, Service, is_request}
use Rattle.round_model.specs.Tables.{Tables, Want, wants, last_of, kept_of, pending_of, if_fresh, is_fresh, fresh_pending, batch_of}
use Rattle.round_model.specs.Verdicts.{Claims, Vote, claim_of, claims_in, how_many, is_backed, lowest_backed, verdict_by, verdict}
use Rattle.round_model.specs.Held.{HeldState, held_code, is_noted, takes, hears}
use Rattle.tier_laws.proofs.Server.GrowingHistory.{half-is}
use Rattle.tier_model.specs.Moves.{as_fact, tier_of, is_client, is_node_of, Packet, Move, idles, drops, says, becomes, log_packets, log_packet}
use Rattle.tier_model.specs.Mid.{Mid, Ready, with_log, ready, apply, apply_state, apply_sends, tells, is_due, due_round, in_log, applies, reply_to}
use Rattle.tier_model.specs.MidRows.{has_seq, pends, tells_again, on_request, is_in, tallied, on_token, holds, takes_answer, on_answer, on_have}
use Rattle.tier_model.specs.MidRows.{is_backend_node, on_frame, leads, own_value, own_cause, offers_as, offers, Running, token_to, to_run}
use Rattle.tier_model.specs.MidRows.{runs_or_not, work}
use Rattle.row_laws.specs.Services.{IsServiceIn}
use Rattle.row_laws.specs.Mids.{ArePendingIn, AreClaimsIn, IsTallyIn, IsHeldIn, IsMidIn}
use Rattle.row_laws.specs.Moves.{IsTaken, IsMoveTo}
use Rattle.server_shim.proofs.Lists.{index_in}
use Rattle.row_laws.proofs.Lists.{at_in, take_in, take_few, each_few}
use Rattle.log_model.proofs.Basics.{every-append}
use Rattle.row_laws.proofs.FewMessages.{few_facts, IsFew, IsWritten, msg_few, lead_few, offer_few}
use Rattle.row_laws.proofs.LogTurns.{sender_is, message_in, AreGood, none_good, both_good, log_good, turn_facts, written_opens, may_raise}
use Rattle.row_laws.proofs.Moving.{telling, quiet, either}
use Rattle.row_laws.proofs.BackMoves.{log_sent}
use Rattle.row_laws.proofs.Applied.{numbers_in}
use Rattle.row_laws.proofs.MidSends.{tells_good, tells_few, reply_taken, reply_sealed, haves_good, haves_few, tokens_good}
use Rattle.row_laws.proofs.MidParts.{pending_in, claims_at, votes_in, takes_in, hears_in}
use Rattle.row_laws.proofs.MidRounds.{IsReadyIn, ready_in, apply_in, run_in}

-- a move of the middle node x
abbrev pub IsMidMove : {B : Type 0} → Service B → ℕ → ℕ → ℕ → Mid → Move Mid → Type 0
IsMidMove s u depth x σ move = IsMoveTo (IsMidIn s.programs u depth x) (λ (z : Mid). z.log) (IsTaken s u depth) InMid x σ move

-- WHAT A ROUND TELLS

-- packets that are taken and have frames, of at most 16 calls or replies
record AreTold {B : Type 0} (s : Service B) (u depth x : ℕ) (ks : List Packet) : Type 0 where
  pub good : AreGood s u depth InMid x ks
  pub few : length ks ≤ 80

round_told : {B : Type 0} (s : Service B) (u depth x : ℕ) (σ : Mid) (R : Ready) → u ≤ 2 → x < 2 * u + 1 → IsMidIn s.programs u depth x σ → IsReadyIn s σ R
    → AreTold s u depth x (apply_sends u x σ (Some R))
round_told s u depth x σ R small l k r =
    let within : open_at σ.log ≤ 4096 = k.log.within in
    let early : σ.applied < 2048 = omega (arith, r.room, within) in
    let ws : List Want = wants s.programs σ.tables r.batch in
    subst (λ (z : List Want). AreTold s u depth x (tells u x σ.tables.next z R.finish.ends)) (sym r.is) (record {
      good = tells_good s u depth x σ.tables.next ws R.finish.ends small l r.ask r.fits.ends
          (numbers_in s.programs depth σ.applied (length ws) σ.tables k.tables early r.few);
      few = let e = tells_few u x σ.tables.next ws R.finish.ends small in omega (arith, e, r.few);
    })

state_in : {B : Type 0} (s : Service B) (u depth x : ℕ) (σ : Mid) (o : Option Ready) → IsServiceIn s.programs → IsMidIn s.programs u depth x σ
    → ((R : Ready) → o ≡ Some R → ready s.programs σ ≡ Some R) → IsMidIn s.programs u depth x (apply_state σ o)
state_in s u depth x σ None service k f = k
state_in s u depth x σ (Some R) service k f = apply_in s u depth x σ R k (ready_in s u depth x σ R service k (f R refl))

sends_told : {B : Type 0} (s : Service B) (u depth x : ℕ) (σ : Mid) (o : Option Ready) → u ≤ 2 → x < 2 * u + 1 → IsServiceIn s.programs
    → IsMidIn s.programs u depth x σ → ((R : Ready) → o ≡ Some R → ready s.programs σ ≡ Some R)
    → AreTold s u depth x (apply_sends u x σ o)
sends_told s u depth x σ None small l service k f = record { good = none_good s u depth InMid x; few = omega arith }
sends_told s u depth x σ (Some R) small l service k f = round_told s u depth x σ R small l k (ready_in s u depth x σ R service k (f R refl))

state_log : (σ : Mid) (o : Option Ready) → (apply_state σ o).log ≡ σ.log
state_log σ None = refl
state_log σ (Some R) = refl

-- TURNS OF THE LOG

-- a turn never forgets what was learned
written_more : (first next : ℕ) (fs : List (LogFact AnyValue)) → IsWritten first next fs → first ≤ next
written_more first next [] w = omega (arith, w)
written_more first next (logs.Promised b ∷ []) w = omega (arith, w)
written_more first next (logs.Accepted p b v ∷ []) w = omega (arith, w)
written_more first next (logs.Learned p v ∷ []) w = omega (arith, w.1)
written_more first next (logs.Promised b ∷ g ∷ fs) w = absurd w
written_more first next (logs.Accepted p b v ∷ g ∷ fs) w = absurd w
written_more first next (logs.Learned p v ∷ g ∷ fs) w = absurd w

due_ready : (b : Bool) (o : Option Ready) (R : Ready) → cond b o None ≡ Some R → o ≡ Some R
due_ready true o R e = e
due_ready false o R e = absurd (cc)

pub turn_in : {B : Type 0} (s : Service B) (u depth x : ℕ) (σ : Mid) (turn : Turn AnyValue) → u ≤ 2 → x < 2 * u + 1 → IsServiceIn s.programs
    → IsMidIn s.programs u depth x σ
    → IsFew u σ.log turn → IsTurnIn u (IsCarried InMid) FitsBallot turn → IsMidMove s u depth x σ (in_log u s.programs x σ turn)
turn_in s u depth x σ turn small l service k few i =
    let now : Mid = with_log σ turn.state in
    let round : Option Ready = due_round s.programs σ turn.state in
    let there : (R : Ready) → round ≡ Some R → ready s.programs now ≡ Some R = λ R e. due_ready (is_due σ turn.state) (ready s.programs now) R e in
    let more = written_more (open_at σ.log) (open_at turn.state) turn.facts few.written in
    let here : IsMidIn s.programs u depth x now = record {
      log = i.state;
      applied = omega
          (arith, k.applied, more);
      tables = k.tables;
      pending = k.pending;
      tally = k.tally;
      spec = k.spec;
      held = k.held;
    } in
    let told = sends_told s u depth x now round small l service here there in
    let good = both_good s u depth InMid x (log_packets InMid x turn.sends) (apply_sends u x now round)
    (log_good s u depth InMid x turn.sends small l i.sends) told.good in
    record {
      state = state_in s u depth x now round service here there;
      taken = good.0;
      sealable = good.1;
      few = omega (
        arith,
        small,
        few.most,
        told.few,
        length-map turn.sends (log_packet InMid x),
        length-append (log_packets InMid x turn.sends)
            (apply_sends u x now round),
      );
      short = omega (arith, few_facts (open_at σ.log) (open_at turn.state) turn.facts few.written, length-map turn.facts as_fact);
      facts = turn_facts u InMid σ.log turn few i;
      opens = ap open_at (state_log now round) ∙ written_opens (open_at σ.log) (open_at turn.state) turn.facts few.written;
    }

-- FRAMES

module _ {B : Type 0} (s : Service B) (u depth x : ℕ) (σ : Mid) where
  -- either move
  each_move : (b : Bool) (p q : Move Mid) → (b ≡ true → IsMidMove s u depth x σ p) → (b ≡ false → IsMidMove s u depth x σ q)
      → IsMidMove s u depth x σ (cond b p q)
  each_move = either (IsMidIn s.programs u depth x) (λ (z : Mid). z.log) (IsTaken s u depth) InMid x σ

  idle_move : (cause : Idle) → IsMidIn s.programs u depth x σ → IsMidMove s u depth x σ (idles σ cause)
  idle_move cause k = quiet (IsMidIn s.programs u depth x) (λ (z : Mid). z.log) (IsTaken s u depth) InMid x σ σ (Idles cause) k refl

  drop_move : (row : ℕ) → IsMidIn s.programs u depth x σ → IsMidMove s u depth x σ (drops σ row)
  drop_move row k = quiet (IsMidIn s.programs u depth x) (λ (z : Mid). z.log) (IsTaken s u depth) InMid x σ σ _ k refl

  become_move : (new : Mid) → IsMidIn s.programs u depth x new → new.log ≡ σ.log → IsMidMove s u depth x σ (becomes new)
  become_move new k e = quiet (IsMidIn s.programs u depth x) (λ (z : Mid). z.log) (IsTaken s u depth) InMid x σ new Did k e

  -- REQUESTS

  told_again : (c n : ℕ) (o : Option (List ℕ)) → u ≤ 2 → x < 2 * u + 1 → IsMidIn s.programs u depth x σ → IsClient c → IsSeq n → IfSome o IsText
      → IsMidMove s u depth x σ (says σ (tells_again x c n o))
  told_again c n None small l k i j f =
      telling (IsMidIn s.programs u depth x) (λ (z : Mid). z.log) (IsTaken s u depth) InMid x σ σ [] Did k refl (none_good s u depth InMid x) (omega arith)
  told_again c n (Some text) small l k i j f =
      telling (IsMidIn s.programs u depth x) (λ (z : Mid). z.log) (IsTaken s u depth) InMid x σ σ (reply_to x c n text ∷ []) Did k refl
      ((reply_taken s u depth x c n text, tt), (reply_sealed u x c n text small l i j f, tt)) (omega arith)

  pends_in : (e : Entry) → IsMidIn s.programs u depth x σ → FitsEntry e → IsMidIn s.programs u depth x (pends σ e)
  pends_in e k f = record {
    log = k.log;
    applied = k.applied;
    tables = k.tables;
    pending = pending_in σ.pending e k.pending f;
    tally = k.tally;
    spec = k.spec;
    held = k.held;
  }

  request_in : (c n : ℕ) (body : List ℕ) → u ≤ 2 → x < 2 * u + 1 → IsMidIn s.programs u depth x σ → IsClient c → IsSeq n → IsText body
      → IsMidMove s u depth x σ (on_request x σ c n body)
  request_in c n body small l k i j f =
      let entry : Entry = record { client = c; seq = n; body = body } in
      each_move ((n == last_of σ.tables.last c) && is_some (kept_of σ.tables.kept c)) _ _
      (λ e. told_again c n (kept_of σ.tables.kept c) small l k i j (at_in (λ o. IfSome o IsText) σ.tables.kept c tt k.tables.kept))
      (λ e. each_move (not (n == suc (last_of σ.tables.last c)) || has_seq (pending_of σ.pending c) n) _ _ (λ g. idle_move why.Nothing k)
      (λ g. become_move (pends σ entry) (pends_in entry k (record { client = i; seq = j; body = f })) refl))

  -- TOKENS

  token_in : (v : Vote) → IsMidIn s.programs u depth x σ → v.round < 2048 → IsCommit v.token v.order → IsMidMove s u depth x σ (on_token σ v)
  token_in v k r c = each_move (nat_lt (2 * v.round + 1) (open_at σ.log) || is_in σ.tally v) _ _ (λ e. idle_move why.Nothing k)
      (λ e. become_move (tallied σ v)
      (record {
        log = k.log;
        applied = k.applied;
        tables = k.tables;
        pending = k.pending;
        tally = votes_in σ.tally v k.tally r c;
        spec = k.spec;
        held = k.held;
      }) refl)

  -- ANSWERS

  holds_all : (h : HeldState) → IsMidIn s.programs u depth x σ → IsHeldIn u x h → IsMidIn s.programs u depth x (holds σ h)
  holds_all h k f = record { log = k.log; applied = k.applied; tables = k.tables; pending = k.pending; tally = k.tally; spec = k.spec; held = f }

  taken_in : (h : HeldState) (t : Tier) (n code : ℕ) → u ≤ 2 → x < 2 * u + 1 → IsMidIn s.programs u depth x σ → IsHeldIn u x h → IsBackend t → IsCallNumber n
      → code < 256 → IsMidMove s u depth x σ (takes_answer u x σ h t n code)
  taken_in h t n code small l k f b c i =
      let good = haves_good s u depth x t n code b small l (c, i) in
      record {
        state = holds_all h k f;
        taken = good.0;
        sealable = good.1;
        few = let e = haves_few u x t n code l in omega (arith, e, small);
        short = omega arith;
        facts = (((b, (c, i)), refl), tt);
        opens = refl;
      }

  answer_in : (t : Tier) (n code : ℕ) → u ≤ 2 → x < 2 * u + 1 → IsMidIn s.programs u depth x σ → IsBackend t → IsCallNumber n → code < 256
      → IsMidMove s u depth x σ (on_answer u x σ t n code)
  answer_in t n code small l k b c i = each_move (is_some (held_code σ.held t n)) _ _ (λ e. idle_move why.Nothing k)
      (λ e. taken_in (takes σ.held t n code) t n code small l k (takes_in u x σ.held t n code k.held c i) b c i)

  have_in : (y : ℕ) (t : Tier) (n code : ℕ) → u ≤ 2 → x < 2 * u + 1 → IsMidIn s.programs u depth x σ → IsBackend t → IsCallNumber n → code < 256
      → IsMidMove s u depth x σ (on_have u x σ y t n code)
  have_in y t n code small l k b c i =
      let held = hears_in u x σ.held y t n code k.held c i in
      each_move (is_noted σ.held y t n) _ _ (λ e. idle_move why.Nothing k)
      (λ e. each_move (is_some (held_code σ.held t n)) _ _ (λ g. become_move (holds σ (hears σ.held y t n code))
      (holds_all (hears σ.held y t n code) k held) refl)
      (λ g. taken_in (hears σ.held y t n code) t n code small l k held b c i))

pub backend_sender : (u : ℕ) (from : End) → is_backend_node u from ≡ true → IsBackend (tier_of from)
backend_sender u (Client c) e = absurd (cc)
backend_sender u (Node n) e = go (is_node_of u Inv (Node n)) refl e
  where
    go : (b : Bool) → is_node_of u Inv (Node n) ≡ b → (b || is_node_of u Pay (Node n)) ≡ true → IsBackend n.tier
    go true f g = let y = sender_is u Inv (Node n) f in subst (λ z. IsBackend (tier_of z)) (sym y.2) tt
    go false f g = let y = sender_is u Pay (Node n) g in subst (λ z. IsBackend (tier_of z)) (sym y.2) tt

-- a request comes from a client
pub client_in : (from : End) (n : ℕ) (body : List ℕ) → not (is_client from) ≡ false → FitsFrame from (msgs.Request n body) → IsClient (end_index from)
client_in (Node n) seq body e f = absurd (cc)
client_in (Client c) seq body e f = f.sender

pub frame_in : {B : Type 0} (s : Service B) (u depth x : ℕ) (σ : Mid) (from : End) (message : Msg) → u ≤ 2 → x < 2 * u + 1 → IsServiceIn s.programs
    → IsMidIn s.programs u depth x σ → FitsFrame from message
    → IsMidMove s u depth x σ (on_frame u s.programs x σ from message)
frame_in {B} s u depth x σ from message small l service k f = go message f
  where
    go : (message : Msg) → FitsFrame from message → IsMidMove s u depth x σ (on_frame u s.programs x σ from message)
    go (msgs.Log p) f = each_move s u depth x σ (is_node_of u InMid from) _ _
        (λ e. let g = log_sent u InMid from p e f in
        turn_in s u depth x σ (on_msg u σ.log (end_index from) p) small l service k (msg_few u σ.log (end_index from) p)
        (msg_in u (IsCarried InMid) FitsBallot σ.log (end_index from) p g.0 k.log (message_in InMid p g.1)))
        (λ e. drop_move s u depth x σ 7 k)
    go (msgs.Request n body) f = each_move s u depth x σ (not (is_client from)) _ _ (λ e. drop_move s u depth x σ 7 k)
        (λ e. each_move s u depth x σ (not (is_request s.programs (record { client = end_index from; seq = n }) body)) _ _ (λ g. drop_move s u depth x σ 8 k)
        (λ g. request_in s u depth x σ (end_index from) n body small l k (client_in from n body e f) f.message.0 f.message.1))
    go (msgs.Token r token order) f = each_move s u depth x σ (is_node_of u InMid from) _ _
        (λ e. token_in s u depth x σ (record { round = r; from = end_index from; token = token; order = order }) k f.message.0 f.message.1)
        (λ e. drop_move s u depth x σ 7 k)
    go (msgs.Answer n code) f = each_move s u depth x σ (is_backend_node u from) _ _
        (λ e. answer_in s u depth x σ (tier_of from) n code small l k (backend_sender u from e) f.message.0 f.message.1) (λ e. drop_move s u depth x σ 7 k)
    go (msgs.Have t n code) f = each_move s u depth x σ (is_node_of u InMid from) _ _
        (λ e. have_in s u depth x σ (end_index from) t n code small l k f.message.0 f.message.1.0 f.message.1.1) (λ e. drop_move s u depth x σ 7 k)
    go (msgs.Reply who body) f = drop_move s u depth x σ 7 k
    go (msgs.Call n body) f = drop_move s u depth x σ 7 k
    go (msgs.Settle g) f = drop_move s u depth x σ 7 k

-- LEADING AND OFFERING

pub leads_in : {B : Type 0} (s : Service B) (u depth x : ℕ) (σ : Mid) → u ≤ 2 → x < 2 * u + 1 → IsServiceIn s.programs → IsMidIn s.programs u depth x σ
    → IsMidMove s u depth x σ (leads u s.programs x σ)
leads_in s u depth x σ small l service k =
    turn_in s u depth x σ (lead u x σ.log) small l service k (lead_few u x σ.log)
    (lead_in u (IsCarried InMid) FitsBallot x σ.log (may_raise x (omega (arith, small, l))) k.log)

-- a batch stands at an even position, and a verdict at an odd one
even_place : (f : ℕ) → odd f ≡ false → ((f % 2) == 0) ≡ true
even_place f e = let h : f ≡ 2 * half f = half-is f ∙ ap (λ b. cond b (2 * half f + 1) (2 * half f)) e in eq-eqb (f % 2) 0 (omega (arith, h))

odd_place : (f : ℕ) → odd f ≡ true → ((f % 2) == 1) ≡ true
odd_place f e = let h : f ≡ 2 * half f + 1 = half-is f ∙ ap (λ b. cond b (2 * half f + 1) (2 * half f)) e in eq-eqb (f % 2) 1 (omega (arith, h))

fresh_fit : (m : Programs) (T : Tables) (o : Option Entry) → IfSome o FitsEntry → Every FitsEntry (if_fresh m T o)
fresh_fit m T None k = tt
fresh_fit m T (Some e) k = cond_both (is_fresh m T e) _ _ (Every FitsEntry) (λ t. (k, tt)) (λ t. tt)

pub pending_fit : (m : Programs) (T : Tables) (pending : List (Option Entry)) (c : ℕ) → ArePendingIn pending → Every FitsEntry (fresh_pending m T pending c)
pending_fit m T pending zero k = tt
pending_fit m T pending (suc c) k =
    every-append FitsEntry (fresh_pending m T pending c) (if_fresh m T (pending_of pending (suc c))) (pending_fit m T pending c k)
    (fresh_fit m T (pending_of pending (suc c)) (at_in (λ o. IfSome o FitsEntry) pending (suc c) tt k.fit))

pub batch_fits : (m : Programs) (T : Tables) (pending : List (Option Entry)) → ArePendingIn pending → FitsMid (Batch (batch_of m T pending))
batch_fits m T pending k = (take_few 8 (fresh_pending m T pending 16), take_in FitsEntry 8 (fresh_pending m T pending 16) (pending_fit m T pending 16 k))

pub verdict_fits : (u : ℕ) (claims : Claims) → AreClaimsIn claims → IfSome (verdict u claims) (λ v. FitsMid (Decided v))
verdict_fits u claims k = by (nat_lt u (how_many u claims)) (lowest_backed u claims) (backed (lowest (2 * u + 1) (λ y. is_backed u claims (claim_of claims y))))
  where
    backed : (o : Option ℕ) → IfSome (and_then o (claim_of claims)) (λ c. IsCommit c.token c.order)
    backed None = tt
    backed (Some y) = index_in (λ (claim : Option Claim). IfSome claim (λ c. IsCommit c.token c.order)) claims y k.fit tt

    by : (b : Bool) (o : Option Claim) → IfSome o (λ c. IsCommit c.token c.order) → IfSome (verdict_by b o) (λ v. FitsMid (Decided v))
    by true None f = tt
    by false None f = tt
    by b (Some c) f = f

pub own_in : {B : Type 0} (s : Service B) (u depth x : ℕ) (σ : Mid) → IsMidIn s.programs u depth x σ
    → IsOwnIn (IsCarried InMid) (open_at σ.log) (own_value u s.programs σ)
own_in s u depth x σ k = cond_both (odd (open_at σ.log)) _ _ (IsOwnIn (IsCarried InMid) (open_at σ.log))
    (λ e. decided e (verdict u (claims_in σ.tally (half (open_at σ.log))))
    (verdict_fits u (claims_in σ.tally (half (open_at σ.log))) (claims_at σ.tally (half (open_at σ.log)) k.tally)))
    (λ e. cond_both (nat_lt σ.applied (half (open_at σ.log))) _ _ (IsOwnIn (IsCarried InMid) (open_at σ.log)) (λ g. tt)
    (λ g. cond_both (is_nil (fresh_pending s.programs σ.tables σ.pending 16) && is_nil (concat σ.tables.queue)) _ _
    (IsOwnIn (IsCarried InMid) (open_at σ.log)) (λ h. tt)
    (λ h. (batch_fits s.programs σ.tables σ.pending k.pending, even_place (open_at σ.log) e))))
  where
    decided : odd (open_at σ.log) ≡ true → (o : Option Verdict) → IfSome o (λ v. FitsMid (Decided v))
        → IsOwnIn (IsCarried InMid) (open_at σ.log) (and_then o (λ v. Some (OfMid (Decided v))))
    decided e None f = tt
    decided e (Some v) f = (f, odd_place (open_at σ.log) e)

pub offers_in : {B : Type 0} (s : Service B) (u depth x : ℕ) (σ : Mid) → u ≤ 2 → x < 2 * u + 1 → IsServiceIn s.programs → IsMidIn s.programs u depth x σ
    → IsMidMove s u depth x σ (offers u s.programs x σ)
offers_in {B} s u depth x σ small l service k = go (log_wants u σ.log)
  where
    own : Option AnyValue
    own = own_value u s.programs σ

    offered : IsMidMove s u depth x σ (in_log u s.programs x σ (offer u x σ.log own))
    offered = turn_in s u depth x σ (offer u x σ.log own) small l service k (offer_few u x σ.log own)
        (offer_in u (IsCarried InMid) FitsBallot x σ.log own k.log (own_in s u depth x σ k))

    go : (w : Offering) → IsMidMove s u depth x σ (offers_as u s.programs x σ w)
    go NotLeader = idle_move s u depth x σ why.NotLeader k
    go (NoPromises have) = idle_move s u depth x σ (why.NoPromises have) k
    go (InFlight p) = idle_move s u depth x σ (why.InFlight p) k
    go LogFull = idle_move s u depth x σ why.LogFull k
    go Taken = offered
    go (Free p) = each_move s u depth x σ (is_some own) _ _ (λ e. offered) (λ e. idle_move s u depth x σ (own_cause u σ) k)

-- WORK

applies_in : {B : Type 0} (s : Service B) (u depth x : ℕ) (σ : Mid) (o : Option Ready) → u ≤ 2 → x < 2 * u + 1 → IsServiceIn s.programs
    → IsMidIn s.programs u depth x σ → ready s.programs σ ≡ o → IsMidMove s u depth x σ (applies u s.programs x σ o)
applies_in s u depth x σ None small l service k e = idle_move s u depth x σ _ k
applies_in s u depth x σ (Some R) small l service k e =
    let r = ready_in s u depth x σ R service k e in
    let told = round_told s u depth x σ R small l k r in
    telling (IsMidIn s.programs u depth x) (λ (z : Mid). z.log) (IsTaken s u depth) InMid x σ (apply σ R) (apply_sends u x σ (Some R)) Did
    (apply_in s u depth x σ R k r) refl told.good (omega (arith, told.few))

runs_in : {B : Type 0} (s : Service B) (u depth x : ℕ) (σ : Mid) (schedule : List ℕ) (o : Option Running) → u ≤ 2 → x < 2 * u + 1 → IsServiceIn s.programs
    → IsMidIn s.programs u depth x σ → to_run u s.programs x σ schedule ≡ o
    → IsMidMove s u depth x σ (runs_or_not u s.programs x σ o)
runs_in s u depth x σ schedule None small l service k e = idle_move s u depth x σ _ k
runs_in s u depth x σ schedule (Some r) small l service k e =
    let v = run_in s u depth x σ schedule r service k e in
    let ks : List Packet = each (2 * u + 1) (is x) (token_to x r.vote) in
    telling (IsMidIn s.programs u depth x) (λ (z : Mid). z.log) (IsTaken s u depth) InMid x σ _ ks (Ran r.note) (record {
      log = k.log;
      applied = k.applied;
      tables = k.tables;
      pending = k.pending;
      tally = cond_both (is_in σ.tally r.vote) _ _ (Every IsTallyIn) (λ t. k.tally) (λ t. votes_in σ.tally r.vote k.tally v.round v.fits);
      spec = v;
      held = k.held;
    }) refl (tokens_good s u depth x r.vote small l v.round v.fits) (let e = each_few (2 * u + 1) (is x) (token_to x r.vote) in omega (arith, e, small))

pub work_in : {B : Type 0} (s : Service B) (u depth x : ℕ) (σ : Mid) (schedule : List ℕ) → u ≤ 2 → x < 2 * u + 1 → IsServiceIn s.programs
    → IsMidIn s.programs u depth x σ → IsMidMove s u depth x σ (work u s.programs x σ schedule)
work_in s u depth x σ schedule small l service k =
    each_move s u depth x σ _ _ _ (λ e. applies_in s u depth x σ (ready s.programs σ) small l service k refl)
    (λ e. runs_in s u depth x σ schedule (to_run u s.programs x σ schedule) small l service k refl)
