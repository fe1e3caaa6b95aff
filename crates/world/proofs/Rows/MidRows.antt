-- The rows of a middle node while nothing is run are those of its log and its pending entries.
use Rattle.std.proofs.Common.{◌≡◌, ℕ, ◌+◌, ◌*◌, ◌<◌, ◌≤◌, Bool, true, false, cond, List, [], ◌∷◌, ◌++◌, length, map}
use Rattle.std.proofs.Common.{refl, sym, ap, ◌∙◌, subst, arith, Option, Some, None, Result, Ok, Err, suc, append-nil}
use Rattle.std.specs.Prelude.{slice_get, ◌&&◌, ◌||◌, ◌==◌, not, nat_lt, OnOk}
use Rattle.std.proofs.lemmas.Bool.{cond-true, cond-false, ne_eqb, eq-eqb, eqb-true, and_right}
use Rattle.aeg_base.specs.declared.names.End.{End}
use Rattle.aeg_disk.specs.Disk.{DiskState}
use Rattle.aeg_disk.proofs.Later.{same_later}
use Rattle.fact_journal.specs.Fitting.{open_after_all}
use Rattle.aeg_base.specs.declared.names.End.TheVariants.{Client}
use Rattle.aeg_base.specs.declared.names.Tier.TheVariants.{Mid as InMid}
use Rattle.log_model.specs.declared.message.PaxMsg.{PaxMsg}
use Rattle.log_model.specs.Log.{LogState, Turn, open_at}
use Rattle.log_model.specs.Rows.{on_msg}
use Rattle.log_model.specs.Ranges.{IsLogIn, IsTurnIn}
use Rattle.log_model.specs.Nodes.{Mode}
use Rattle.log_model.specs.Nodes.Mode.{Up, Down, Gone}
use Rattle.log_values.specs.declared.any_value.AnyValue.{AnyValue}
use Rattle.log_values.specs.declared.any_value.AnyValue.TheVariants as values
use Rattle.log_values.specs.declared.mid_value.MidValue.TheVariants.{Batch, Verdict as Decided}
use Rattle.log_values.specs.declared.entry.Entry.{Entry}
use Rattle.log_values.specs.Fields.{FitsBallot, IsClient}
use Rattle.frames.specs.declared.message.Msg.TheVariants as msgs
use Rattle.tier_model.specs.declared.turn.Turn.{Turn as Answer}
use Rattle.tier_model.specs.declared.turn.Turn.TheVariants.{Did, Idle as Idles}
use Rattle.tier_model.specs.declared.turn.Idle.TheVariants as why
use Rattle.tier_model.specs.declared.turn.Fault.{Fault}
use Rattle.tier_model.specs.declared.turn.Fault.TheVariants as faults
use Rattle.round_model.specs.Lists.{is_some, put_at}
use Rattle.round_model.specs.Service.{is_request}
use Rattle.round_model.specs.Tables.{tables0, kept_of, pending_of}
use Rattle.tier_model.specs.Moves.{is_node_of, Packet, Move, idles, drops, says, becomes, log_packets, as_fact, log_answer}
use Rattle.frames.specs.Headers.{end_index}
use Rattle.tier_model.specs.Mid.{Mid, with_log, in_log, is_due, due_round, ready, apply_state, apply_sends}
use Rattle.tier_model.specs.MidRows.{has_seq, pends, tells_again, on_request, on_frame}
use Rattle.run_model.specs.BookingRuns.{booking_service}
use Rattle.world.specs.Parts.{CanStand, IsAsked, AllReach, StandIn, NodePart, MidPart, as_mid, Makes, Wrote, MidView, MidMoves, AreFit, HaveRoom}
use Rattle.world.specs.LogNodes.{LogView, log_itself, log_move, Turns, mid_mode, mid_part}
use Rattle.world.proofs.Turns.FewMessages.{IsFew, log_room}
use Rattle.world.proofs.Turns.SentAndWritten.{all_reach}
use Rattle.world.proofs.Turns.JournalsGrow.{turn_stands, nothing_stands, written_opens}
use Rattle.world.proofs.Rows.PendingPlaces.{at-none, at-zero}

-- what contracts see of a middle node with these fields
abbrev pub mid_view : LogView → ℕ → List (Option Entry) → MidView
mid_view n depth pending = record { faults = n.faults; tier = InMid; depth = depth; me = n.me; part = mid_part n.part pending }

abbrev part_of : LogState AnyValue → List (Option Entry) → MidPart
part_of log pending = record { log = log; pending = pending }

-- NO VERDICT IS LEARNED

no_verdict : (v : AnyValue) → CanStand InMid 1 v → ⊥
no_verdict (values.Mid (Batch es)) k = let e = k.1 in absurd (cc)
no_verdict (values.Mid (Decided v)) k = absurd k
no_verdict (values.Back v) k = absurd k

pub at_most_one : (log : LogState AnyValue) → IsLogIn (CanStand InMid) FitsBallot log → length log.learned ≤ 1
at_most_one log k = go log.learned k.learned
  where
    go : (xs : List AnyValue) → ((p : ℕ) (v : AnyValue) → slice_get xs p ≡ Some v → CanStand InMid p v) → length xs ≤ 1
    go [] f = omega arith
    go (v ∷ []) f = omega arith
    go (v ∷ w ∷ xs) f = absurd (no_verdict w (f 1 w refl))

never_due : (u x depth : ℕ) (part : MidPart) (log : LogState AnyValue) → length log.learned ≤ 1 → is_due (as_mid u x depth part) log ≡ false
never_due u x depth part log l = and_right (nat_lt (length part.log.learned) (length log.learned))
    (length log.learned == 2 * 0 + 2) (ne_eqb (length log.learned) 2 (λ e. omega arith))

never_ready : (u x depth : ℕ) (part : MidPart) (log : LogState AnyValue) → length log.learned ≤ 1
    → due_round booking_service.programs (as_mid u x depth part) log ≡ None
never_ready u x depth part log l = cond-false (is_due (as_mid u x depth part) log)
    (ready booking_service.programs (with_log (as_mid u x depth part) log)) None (never_due u x depth part log l)

-- the row of a turn of the log, while nothing is run
abbrev pub mid_move : ℕ → ℕ → List (Option Entry) → ℕ → Turn AnyValue → Move Mid
mid_move u depth pending x turn = record {
  state = as_mid u x depth (part_of turn.state pending);
  facts = map as_fact turn.facts;
  sends = log_packets InMid x turn.sends;
  answer = log_answer turn.idle;
}

pub in_log_is : (u depth x : ℕ) (log : LogState AnyValue) (pending : List (Option Entry)) (turn : Turn AnyValue)
    → length turn.state.learned ≤ 1 → in_log u booking_service.programs x (as_mid u x depth (part_of log pending)) turn
    ≡ mid_move u depth pending x turn
in_log_is u depth x log pending turn l =
    ap (λ d. record {
      state = apply_state (with_log (as_mid u x depth (part_of log pending)) turn.state) d;
      facts = map as_fact turn.facts;
      sends = log_packets InMid x turn.sends
          ++ apply_sends u x (with_log (as_mid u x depth (part_of log pending)) turn.state) d;
      answer = log_answer turn.idle;
    })
    (never_ready u x depth (part_of log pending) turn.state l)
    ∙ ap (λ ks. record {
      state = as_mid u x depth (part_of turn.state pending);
      facts = map as_fact turn.facts;
      sends = ks;
      answer = log_answer turn.idle;
    }) (append-nil (log_packets InMid x turn.sends))

-- FROM THE LOG'S MOVES TO THE NODE'S

pub on_ok : {P : Type 0} (result : Result Answer Fault) → P → OnOk result P
on_ok (Ok a) p = p
on_ok (Err e) p = tt

mid_makes : (u depth x : ℕ) (pending : List (Option Entry)) (old new : NodePart (LogState AnyValue))
    (before after : List (End × List ℕ)) (turn : Turn AnyValue) (result : Result Answer Fault)
    → Makes log_itself old new before after (log_move InMid x turn) result
    → Makes (as_mid u x depth) (mid_part old pending) (mid_part new pending) before after
    (mid_move u depth pending x turn) result
mid_makes u depth x pending old new before after turn (Ok answer) k = (
  k.0,
  (part_of k.1.0 pending, ap (λ z. mid_mode z pending) k.1.1, ap (λ z. as_mid u x depth (part_of z pending)) k.1.2),
  k.2,
  k.3,
  k.4,
  k.5,
  k.6,
)
mid_makes u depth x pending old new before after turn (Err (faults.JournalFull n)) k = (k.0, ap (λ z. mid_mode z pending) k.1, k.2, k.3, k.4)
mid_makes u depth x pending old new before after turn (Err faults.Memory) k = tt
mid_makes u depth x pending old new before after turn (Err faults.Disk) k = (k.0, ap (λ z. mid_mode z pending) k.1, k.2, k.3, k.4)
mid_makes u depth x pending old new before after turn (Err (faults.BadRecord n)) k = absurd k

-- the part of a middle node that is up
pub mid_up : (mode : Mode (LogState AnyValue)) (pending : List (Option Entry)) (part : MidPart)
    → mid_mode mode pending ≡ Up part → (mode ≡ Up part.log) × (part.pending ≡ pending)
mid_up (Up log) pending part e = let p : part_of log pending
    ≡ part = up_part (part_of log pending) part e in (ap (λ (z : MidPart). Up z.log) p, ap (λ (z : MidPart). z.pending) (sym p))
  where
    up_part : (a b : MidPart) → ◌≡◌ {A = Mode MidPart} (Up a) (Up b) → a ≡ b
    up_part a b e = cc
mid_up Down pending part e = absurd (cc)
mid_up Gone pending part e = absurd (cc)

-- a call of the log's node that makes a turn is the node's, where the row is that turn
pub mid_turns : (depth : ℕ) (pending : List (Option Entry)) (old new : LogView) (now : MidView) (a b : DiskState)
    (before after : List (End × List ℕ)) (t : LogState AnyValue → Turn AnyValue) (move : ℕ → ℕ → Mid
    → Move Mid) (result : Result Answer Fault)
    → mid_view old depth pending ≡ now → old.tier ≡ InMid → old.me < 2 * old.faults + 1 → old.faults ≤ 2
    → Turns old new a b before after t result → ((log : LogState AnyValue) → IsFew old.faults log (t log))
    → ((log : LogState AnyValue) → old.part.mode ≡ Up log
    → move old.faults old.me (as_mid old.faults old.me depth (part_of log pending))
    ≡ in_log old.faults booking_service.programs old.me (as_mid old.faults old.me depth (part_of log pending)) (t log))
    → MidMoves now (mid_view new depth pending) a b before after (move now.faults now.me) result
mid_turns depth pending old new now a b before after t move result v tier l small k few f = subst
    (λ (z : MidView). MidMoves z (mid_view new depth pending) a b before after (move z.faults z.me) result) v (record {
      row = λ part e. at (λ z. Makes (as_mid old.faults old.me depth) (mid_part old.part pending) (mid_part new.part pending) before after z result) part e
          (mid_makes old.faults depth old.me pending old.part new.part before after (t part.log) result
          (subst (λ z. Makes log_itself old.part new.part before after (log_move z old.me (t part.log)) result) tier
          (k.row part.log (here part e))));
      disk = λ part e. at (λ z. Wrote a b old.part.place new.part.place z.facts result) part e (k.disk part.log (here part e));
      later = k.later;
      reach = on_ok result
          (λ part e. at (λ z. AllReach old.faults z.sends) part e
          (all_reach old.faults InMid old.me (t part.log).sends l (range part.log (here part e)).sends));
      few = on_ok result (λ part e. at (λ z. HaveRoom z.sends) part e (log_room old.faults InMid old.me (t part.log).sends small (few part.log).most));
      fits = λ part e. at (λ z. StandIn InMid (open_at part.log) z.facts) part e
          (turn_stands old.faults InMid part.log (t part.log) (few part.log) (range part.log (here part e)));
      opens = λ part e. at (λ z. open_at z.state.log ≡ open_after_all (open_at part.log) z.facts) part e
          (written_opens (open_at part.log) (open_at (t part.log).state) (t part.log).facts (few part.log).written);
      same = (k.same.0, (refl, (refl, k.same.1.1)));
    })
  where
    here : (part : MidPart) → mid_mode old.part.mode pending ≡ Up part → old.part.mode ≡ Up part.log
    here part e = (mid_up old.part.mode pending part e).0

    range : (log : LogState AnyValue) → old.part.mode ≡ Up log → IsTurnIn old.faults (CanStand InMid) FitsBallot (t log)
    range log e = subst (λ z. IsTurnIn old.faults (CanStand z) FitsBallot (t log)) tier (k.range log e)

    is : (log : LogState AnyValue) → old.part.mode ≡ Up log
        → move old.faults old.me (as_mid old.faults old.me depth (part_of log pending))
        ≡ mid_move old.faults depth pending old.me (t log)
    is log e = f log e ∙ in_log_is old.faults depth old.me log pending (t log) (at_most_one (t log).state (range log e).state)

    -- what holds of the turn's move holds of the row
    at : (P : Move Mid → Type 0) (part : MidPart) → mid_mode old.part.mode pending ≡ Up part
        → P (mid_move old.faults depth pending old.me (t part.log))
        → P (move old.faults old.me (as_mid old.faults old.me depth part))
    at P part e m = subst (λ z. P (move old.faults old.me (as_mid old.faults old.me depth (part_of part.log z))))
        (sym (mid_up old.part.mode pending part e).1) (subst P (sym (is part.log (here part e))) m)

pub none_fit : AreFit []
none_fit = λ i k e. absurd (cc)

pub none_reach : (u : ℕ) → AllReach u []
none_reach u = λ i k e. absurd (cc)

pub none_room : HaveRoom {A = Packet} []
none_room = omega arith

-- a disk to which nothing is written
pub wrote_none : (a : DiskState) (place : ℕ) (answer : Answer) → Wrote a a place place [] (Ok answer)
wrote_none a place answer = (λ rs t has. has, λ e. absurd (cc), λ e. refl)

-- a call that answers without a turn: it is idle, or drops the packet
pub mid_quiet : (now : MidView) (a : DiskState) (out : List (End × List ℕ)) (move : Mid → Move Mid) (answer : Answer)
    → ((part : MidPart) → now.part.mode ≡ Up part → move (as_mid now.faults now.me now.depth part)
    ≡ record { state = as_mid now.faults now.me now.depth part; facts = []; sends = []; answer = answer })
    → MidMoves now now a a out out move (Ok answer)
mid_quiet now a out move answer f = record {
  row = λ part e. subst (λ z. Makes (as_mid now.faults now.me now.depth) now.part now.part out out z (Ok answer))
      (sym (f part e)) (refl, (part, e, refl), refl, refl, sym (append-nil out), none_fit, refl);
  disk = λ part e. subst (λ (z : Move Mid). Wrote a a now.part.place now.part.place z.facts (Ok answer)) (sym (f part e)) (wrote_none a now.part.place answer);
  later = same_later a a refl;
  reach = λ part e. subst (λ (z : Move Mid). AllReach now.faults z.sends) (sym (f part e)) (none_reach now.faults);
  few = λ part e. subst (λ (z : Move Mid). HaveRoom z.sends) (sym (f part e)) none_room;
  fits = λ part e. subst (λ (z : Move Mid). StandIn now.tier (open_at part.log) z.facts) (sym (f part e)) (nothing_stands now.tier (open_at part.log));
  opens = λ part e. subst (λ (z : Move Mid). open_at z.state.log ≡ open_after_all (open_at part.log) z.facts) (sym (f part e)) refl;
  same = (refl, (refl, (refl, refl)));
}

-- FRAMES OF THE LOG

pub frame_log : (u x depth : ℕ) (part : MidPart) (from : End) (m : PaxMsg AnyValue) (i : ℕ) → is_node_of u InMid from ≡ true → i ≡ end_index from
    → on_frame u booking_service.programs x (as_mid u x depth part) from (msgs.Log m)
    ≡ in_log u booking_service.programs x (as_mid u x depth part) (on_msg u part.log i m)
frame_log u x depth part from m i e f =
    cond-true (is_node_of u InMid from)
    (in_log u booking_service.programs x (as_mid u x depth part) (on_msg u part.log (end_index from) m))
    (drops (as_mid u x depth part) 7) e
    ∙ ap (λ z. in_log u booking_service.programs x (as_mid u x depth part) (on_msg u part.log z m)) (sym f)

-- REQUESTS

-- by the client's last number and its kept reply
abbrev asked : ℕ → ℕ → ℕ → MidPart → ℕ → ℕ → List ℕ → ℕ → Option (List ℕ) → Move Mid
asked u x depth part c s text l k =
    cond ((s == l) && is_some k) (says (as_mid u x depth part) (tells_again x c s k))
    (cond (not (s == suc l) || has_seq (pending_of part.pending c) s) (idles (as_mid u x depth part) why.Nothing)
    (becomes (pends (as_mid u x depth part) (record { client = c; seq = s; body = text }))))

and_no : (a : Bool) → (a && false) ≡ false
and_no true = refl
and_no false = refl

request_is : (u x depth : ℕ) (part : MidPart) (c s : ℕ) (text : List ℕ) → is_request booking_service.programs (record { client = c; seq = s }) text ≡ true
    → on_frame u booking_service.programs x (as_mid u x depth part) (Client c) (msgs.Request s text)
    ≡ cond (not (s == 1) || has_seq (pending_of part.pending c) s) (idles (as_mid u x depth part) why.Nothing)
    (becomes (pends (as_mid u x depth part) (record { client = c; seq = s; body = text })))
request_is u x depth part c s text r =
    cond-false (not (is_request booking_service.programs (record { client = c; seq = s }) text))
    (drops (as_mid u x depth part) 8) (on_request x (as_mid u x depth part) c s text) (ap not r)
    ∙ (ap (λ l. asked u x depth part c s text l (kept_of (tables0 depth).kept c)) (at-zero 17 c)
    ∙ (ap (λ k. asked u x depth part c s text 0 k) (at-none {A = List ℕ} 17 c)
    ∙ cond-false ((s == 0) && false) (says (as_mid u x depth part) [])
    (cond (not (s == 1) || has_seq (pending_of part.pending c) s) (idles (as_mid u x depth part) why.Nothing)
    (becomes (pends (as_mid u x depth part) (record { client = c; seq = s; body = text })))) (and_no (s == 0))))

pub is_asked : (from : End) (c s : ℕ) (text : List ℕ) → from ≡ Client c → IsAsked from s text → (IsClient c)
    × (is_request booking_service.programs (record { client = c; seq = s }) text ≡ true)
is_asked from c s text e k = let a = subst (λ f. IsAsked f s text) e k in (a.0, a.1.1)

-- one that isn't the first, or that is pending, is passed over
pub request_passed : (n : LogView) (depth : ℕ) (pending : List (Option Entry)) (now : MidView) (a : DiskState)
    (out : List (End × List ℕ)) (from : End) (c s : ℕ) (text : List ℕ) → mid_view n depth pending ≡ now
    → from ≡ Client c → IsAsked from s text
    → (s ≡ 1 → has_seq (pending_of pending c) s ≡ true)
    → MidMoves now now a a out out
    (λ σ. on_frame now.faults booking_service.programs now.me σ from (msgs.Request s text)) (Ok (Idles why.Nothing))
request_passed n depth pending now a out from c s text v f r q = subst
    (λ z. MidMoves now now a a out out
    (λ σ. on_frame now.faults booking_service.programs now.me σ z (msgs.Request s text)) (Ok (Idles why.Nothing))) (sym f)
    (subst (λ z. MidMoves z z a a out out (λ σ. on_frame z.faults booking_service.programs z.me σ (Client c) (msgs.Request s text)) (Ok (Idles why.Nothing))) v
    (mid_quiet (mid_view n depth pending) a out
    (λ σ. on_frame n.faults booking_service.programs n.me σ (Client c) (msgs.Request s text)) (Idles why.Nothing) (λ part e.
    request_is n.faults n.me depth part c s text (is_asked from c s text f r).1
    ∙ cond-true (not (s == 1) || has_seq (pending_of part.pending c) s)
    (idles (as_mid n.faults n.me depth part) why.Nothing)
    (becomes (pends (as_mid n.faults n.me depth part) (record { client = c; seq = s; body = text })))
    (passed (s == 1) (has_seq (pending_of part.pending c) s)
    (λ t. subst (λ z. has_seq (pending_of z c) s ≡ true) (sym (mid_up n.part.mode pending part e).1) (q (eqb-true s 1 t)))))))
  where
    passed : (a h : Bool) → (a ≡ true → h ≡ true) → (not a || h) ≡ true
    passed true h f = f refl
    passed false h f = refl

-- a first request is pending from now on
pub request_taken : (n : LogView) (depth : ℕ) (pending new : List (Option Entry)) (now : MidView) (a : DiskState)
    (out : List (End × List ℕ)) (from : End) (c s : ℕ) (text : List ℕ) → mid_view n depth pending ≡ now
    → from ≡ Client c → IsAsked from s text
    → s ≡ 1 → has_seq (pending_of pending c) s ≡ false → new ≡ put_at None pending c (Some (record { client = c; seq = s; body = text }))
    → MidMoves now (mid_view n depth new) a a out out (λ σ. on_frame now.faults booking_service.programs now.me σ from (msgs.Request s text)) (Ok Did)
request_taken n depth pending new now a out from c s text v f r one h p = subst
    (λ z. MidMoves now (mid_view n depth new) a a out out
    (λ σ. on_frame now.faults booking_service.programs now.me σ z (msgs.Request s text)) (Ok Did)) (sym f)
    (subst (λ z. MidMoves z (mid_view n depth new) a a out out
    (λ σ. on_frame z.faults booking_service.programs z.me σ (Client c) (msgs.Request s text)) (Ok Did)) v (record {
      row = λ part e. at (λ z. Makes (as_mid n.faults n.me depth) (mid_part n.part pending) (mid_part n.part new) out out z (Ok Did)) part e
          (let q = mid_up n.part.mode pending part e in (
            refl,
            (part_of part.log new, ap (λ z. mid_mode z new) q.0, state part q.1),
            refl,
            refl,
            sym (append-nil out),
            none_fit,
            refl,
          ));
      disk = λ part e. at (λ z. Wrote a a n.part.place n.part.place z.facts (Ok Did)) part e (wrote_none a n.part.place Did);
      later = same_later a a refl;
      reach = λ part e. at (λ z. AllReach n.faults z.sends) part e (none_reach n.faults);
      few = λ part e. at (λ z. HaveRoom z.sends) part e none_room;
      fits = λ part e. at (λ z. StandIn InMid (open_at part.log) z.facts) part e (nothing_stands InMid (open_at part.log));
      opens = λ part e. at (λ z. open_at z.state.log ≡ open_after_all (open_at part.log) z.facts) part e refl;
      same = (refl, (refl, (refl, refl)));
    }))
  where
    entry : Entry
    entry = record { client = c; seq = s; body = text }

    is : (part : MidPart) → part.pending ≡ pending
        → on_frame n.faults booking_service.programs n.me (as_mid n.faults n.me depth part) (Client c)
        (msgs.Request s text) ≡ becomes (pends (as_mid n.faults n.me depth part) entry)
    is part e = request_is n.faults n.me depth part c s text (is_asked from c s text f r).1
        ∙ cond-false (not (s == 1) || has_seq (pending_of part.pending c) s)
        (idles (as_mid n.faults n.me depth part) why.Nothing) (becomes (pends (as_mid n.faults n.me depth part) entry))
        (rw (eq-eqb s 1 one) (subst (λ z. has_seq (pending_of z c) s ≡ false) (sym e) h))

    at : (P : Move Mid → Type 0) (part : MidPart) → mid_mode n.part.mode pending ≡ Up part
        → P (becomes (pends (as_mid n.faults n.me depth part) entry))
        → P (on_frame n.faults booking_service.programs n.me (as_mid n.faults n.me depth part) (Client c) (msgs.Request s text))
    at P part e m = subst P (sym (is part (mid_up n.part.mode pending part e).1)) m

    state : (part : MidPart) → part.pending ≡ pending → as_mid n.faults n.me depth (part_of part.log new) ≡ pends (as_mid n.faults n.me depth part) entry
    state part e = ap (λ z. as_mid n.faults n.me depth (part_of part.log z)) (p ∙ ap (λ z. put_at None z c (Some entry)) (sym e))

-- nor is anything known of it where there is no memory for it, but that it would write nothing
pub request_none : (n : LogView) (depth : ℕ) (pending : List (Option Entry)) (now : MidView) (a : DiskState)
    (out : List (End × List ℕ)) (from : End) (c s : ℕ) (text : List ℕ) (result : Result Answer Fault)
    → mid_view n depth pending ≡ now → from ≡ Client c → IsAsked from s text
    → s ≡ 1 → has_seq (pending_of pending c) s ≡ false → result ≡ Err faults.Memory
    → MidMoves now now a a out out
    (λ σ. on_frame now.faults booking_service.programs now.me σ from (msgs.Request s text)) result
request_none n depth pending now a out from c s text result v f r one h e = subst
    (λ z. MidMoves now now a a out out
    (λ σ. on_frame now.faults booking_service.programs now.me σ from (msgs.Request s text)) z) (sym e) (record {
      row = λ part e. tt;
      disk = λ part e. tt;
      later = taken.later;
      reach = tt;
      few = tt;
      fits = taken.fits;
      opens = taken.opens;
      same = (refl, (refl, (refl, refl)));
    })
  where
    taken : MidMoves now (mid_view n depth (put_at None pending c (Some (record { client = c; seq = s; body = text }))))
        a a out out (λ σ. on_frame now.faults booking_service.programs now.me σ from (msgs.Request s text)) (Ok Did)
    taken = request_taken n depth pending (put_at None pending c (Some (record { client = c; seq = s; body = text }))) now a out from c s text v f r one h refl

-- a call that ran out of memory
pub mid_none : (now : MidView) (a : DiskState) (out after : List (End × List ℕ)) (move : Mid → Move Mid) (result : Result Answer Fault)
    → now.tier ≡ InMid → ((part : MidPart) → now.part.mode ≡ Up part
    → StandIn InMid (open_at part.log) (move (as_mid now.faults now.me now.depth part)).facts)
    → ((part : MidPart) → now.part.mode ≡ Up part
    → open_at (move (as_mid now.faults now.me now.depth part)).state.log
    ≡ open_after_all (open_at part.log) (move (as_mid now.faults now.me now.depth part)).facts)
    → result ≡ Err faults.Memory → MidMoves now now a a out after move result
mid_none now a out after move result tier fits opens e = subst (λ z. MidMoves now now a a out after move z) (sym e) (record {
  row = λ part e. tt;
  disk = λ part e. tt;
  later = same_later a a refl;
  reach = tt;
  few = tt;
  fits = λ part m. subst (λ z. StandIn z (open_at part.log) (move (as_mid now.faults now.me now.depth part)).facts) (sym tier) (fits part m);
  opens = opens;
  same = (refl, (refl, (refl, refl)));
})
