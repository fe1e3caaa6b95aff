-- The rows of a backend node while nothing is run are those of its log, which no value reaches.
use Rattle.std.proofs.Common.{◌≡◌, ℕ, ◌+◌, ◌*◌, ◌<◌, ◌≤◌, Bool, true, false, cond, List, [], ◌∷◌, ◌++◌, length, map}
use Rattle.std.proofs.Common.{replicate, refl, sym, ap, ◌∙◌, subst, arith, Option, Some, None, Result, Ok, Err, zero}
use Rattle.std.proofs.Common.{suc, append-nil}
use Rattle.std.specs.Prelude.{slice_get, nat_lt, nat_le, ◌==◌, ◌&&◌, not, IfSome}
use Rattle.std.specs.List.{AllByRecursion}
use Rattle.std.proofs.lemmas.Bool.{cond-true, cond-false, cond_both, ltb-true, false_from_ne_true}
use Rattle.aeg_base.specs.declared.limits.TheConstants.{POSITIONS}
use Rattle.aeg_base.specs.declared.names.Ballot.{Ballot}
use Rattle.aeg_disk.specs.Disk.{DiskState}
use Rattle.aeg_disk.proofs.Later.{same_later}
use Rattle.fact_journal.specs.Fitting.{open_after_all}
use Rattle.aeg_base.specs.declared.names.End.{End}
use Rattle.aeg_base.specs.declared.names.Tier.{Tier}
use Rattle.aeg_base.specs.declared.names.Tier.TheVariants.{Mid as InMid, Inv, Pay}
use Rattle.svc_api.specs.Plan.{IsBackend}
use Rattle.server_model.specs.Backends.{Amounts}
use Rattle.log_model.specs.declared.message.PaxMsg.{PaxMsg}
use Rattle.log_model.specs.declared.turn.Offering.{Offering}
use Rattle.log_model.specs.declared.turn.Offering.TheVariants.{NotLeader, NoPromises, InFlight, LogFull, Taken, Free}
use Rattle.log_model.specs.Log.{Leader, LogState, Turn, open_at, is_at, is_none}
use Rattle.log_model.specs.Rows.{offer, wants as log_wants, wants_as, on_msg, promised_by, is_taken}
use Rattle.log_model.specs.Ranges.{IsVoteIn, IsLeaderIn, IsLogIn, IsSendIn}
use Rattle.log_model.specs.Nodes.Mode.{Up}
use Rattle.log_values.specs.declared.any_value.AnyValue.{AnyValue}
use Rattle.log_values.specs.Fields.{FitsBallot}
use Rattle.frames.specs.declared.message.Msg.TheVariants as msgs
use Rattle.tier_model.specs.declared.turn.Turn.{Turn as Answer}
use Rattle.tier_model.specs.declared.turn.Turn.TheVariants.{Did, Idle as Idles}
use Rattle.tier_model.specs.declared.turn.Idle.{Idle}
use Rattle.tier_model.specs.declared.turn.Idle.TheVariants as why
use Rattle.tier_model.specs.declared.turn.Fault.{Fault}
use Rattle.tier_model.specs.declared.turn.Fault.TheVariants as faults
use Rattle.round_model.specs.Lists.{is_some}
use Rattle.round_model.specs.Shims.{floor_at, is_more, due_among, due}
use Rattle.tier_model.specs.Moves.{is_node_of, Move, idles, drops, says, log_packets, asks, as_fact, log_answer, offer_cause}
use Rattle.frames.specs.Headers.{end_index}
use Rattle.tier_model.specs.Back.{Back, with_log, new_value, value_state, value_tells, in_log}
use Rattle.tier_model.specs.BackRows.{on_frame, settle_value, own_value, offers_as, offers, retry}
use Rattle.run_model.specs.BookingRuns.{booking_service}
use Rattle.world.specs.Parts.{CanStand, AllReach, StandIn, NodePart, as_back, Makes, Wrote, BackView, BackMoves, HaveRoom, sealed}
use Rattle.world.specs.LogNodes.{LogView, IsRanged, log_itself, log_move, Turns}
use Rattle.world.proofs.Turns.SentAndWritten.{all_reach, sends_fit, are_fit}
use Rattle.world.proofs.Turns.FewMessages.{IsFew, log_room, asks_room}
use Rattle.world.proofs.Rows.MidRows.{on_ok, none_fit, none_reach, none_room, wrote_none}
use Rattle.world.proofs.Turns.JournalsGrow.{turn_stands, nothing_stands, written_opens}
use Rattle.world.proofs.Rows.MidOffers.{asks_in}

-- what contracts see of a backend node with this log
abbrev pub back_view : LogView → BackView
back_view n = record { faults = n.faults; tier = n.tier; depth = 0; me = n.me; part = n.part }

-- NOTHING IS LEARNED OR REPORTED

no_value : (t : Tier) (p : ℕ) (v : AnyValue) → IsBackend t → CanStand t p v → ⊥
no_value InMid p v b k = absurd b
no_value Inv p v b k = k
no_value Pay p v b k = k

pub none_learned : (t : Tier) (log : LogState AnyValue) → IsBackend t → IsLogIn (CanStand t) FitsBallot log → length log.learned ≡ 0
none_learned t log b k = go log.learned k.learned
  where
    go : (xs : List AnyValue) → ((p : ℕ) (v : AnyValue) → slice_get xs p ≡ Some v → CanStand t p v) → length xs ≡ 0
    go [] f = refl
    go (v ∷ xs) f = absurd (no_value t 0 v b (f 0 v refl))

no_report : (t : Tier) (p : ℕ) (o : Option (Ballot × AnyValue)) → IsBackend t → IsVoteIn (CanStand t) FitsBallot p o → is_none o ≡ true
no_report t p None b k = refl
no_report t p (Some a) b k = absurd (no_value t p a.1 b k.1.1)

nothing_new : (old new : LogState AnyValue) → length new.learned ≡ 0 → new_value old new ≡ None
nothing_new old new e = cond-false (nat_lt (length old.learned) (length new.learned)) (slice_get new.learned (length old.learned)) None
    (false_from_ne_true (nat_lt (length old.learned) (length new.learned))
    (λ t. let l : length old.learned < length new.learned = ltb-true (length old.learned) (length new.learned)
    t in omega arith))

abbrev back_move : ℕ → Tier → ℕ → Turn AnyValue → Move (Back Amounts)
back_move u t x turn = record {
  state = as_back u t turn.state;
  facts = map as_fact turn.facts;
  sends = log_packets t x turn.sends;
  answer = log_answer turn.idle;
}

in_log_is : (u : ℕ) (t : Tier) (x : ℕ) (log : LogState AnyValue) (turn : Turn AnyValue) → length turn.state.learned ≡ 0
    → in_log u (booking_service.backend t) t x (as_back u t log) turn ≡ back_move u t x turn
in_log_is u t x log turn e =
    ap (λ v. record {
      state = value_state (booking_service.backend t) (with_log (as_back u t log) turn.state) v;
      facts = map as_fact turn.facts;
      sends = log_packets t x turn.sends
          ++ value_tells u (booking_service.backend t) t x (with_log (as_back u t log) turn.state) v;
      answer = log_answer turn.idle;
    })
    (nothing_new log turn.state e)
    ∙ ap (λ ks. record {
      state = as_back u t turn.state;
      facts = map as_fact turn.facts;
      sends = ks;
      answer = log_answer turn.idle;
    }) (append-nil (log_packets t x turn.sends))

-- FROM THE LOG'S MOVES TO THE NODE'S

back_makes : (u : ℕ) (t : Tier) (x : ℕ) (old new : NodePart (LogState AnyValue)) (before after : List (End × List ℕ))
    (turn : Turn AnyValue) (result : Result Answer Fault)
    → Makes log_itself old new before after (log_move t x turn) result → Makes (as_back u t) old new before after (back_move u t x turn) result
back_makes u t x old new before after turn (Ok answer) k = (k.0, (k.1.0, k.1.1, ap (λ z. as_back u t z) k.1.2), k.2, k.3, k.4, k.5, k.6)
back_makes u t x old new before after turn (Err (faults.JournalFull n)) k = k
back_makes u t x old new before after turn (Err faults.Memory) k = tt
back_makes u t x old new before after turn (Err faults.Disk) k = k
back_makes u t x old new before after turn (Err (faults.BadRecord n)) k = absurd k

pub back_turns : (old new : LogView) (now : BackView) (a b : DiskState) (before after : List (End × List ℕ))
    (t : LogState AnyValue → Turn AnyValue) (move : ℕ → Tier → ℕ → Back Amounts → Move (Back Amounts))
    (result : Result Answer Fault)
    → back_view old ≡ now → IsBackend old.tier → old.me < 2 * old.faults + 1 → old.faults ≤ 2
    → Turns old new a b before after t result → ((log : LogState AnyValue) → IsFew old.faults log (t log))
    → ((log : LogState AnyValue) → old.part.mode ≡ Up log
    → move old.faults old.tier old.me (as_back old.faults old.tier log)
    ≡ in_log old.faults (booking_service.backend old.tier) old.tier old.me (as_back old.faults old.tier log) (t log))
    → BackMoves now (back_view new) a b before after (move now.faults now.tier now.me) result
back_turns old new now a b before after t move result v is l small k few f = subst
    (λ (z : BackView). BackMoves z (back_view new) a b before after (move z.faults z.tier z.me) result) v (record {
      row = λ log e. at (λ z. Makes (as_back old.faults old.tier) old.part new.part before after z result) log e
          (back_makes old.faults old.tier old.me old.part new.part before after (t log) result (k.row log e));
      disk = λ log e. at (λ z. Wrote a b old.part.place new.part.place z.facts result) log e (k.disk log e);
      later = k.later;
      reach = on_ok result (λ log e. at (λ z. AllReach old.faults z.sends) log e (all_reach old.faults old.tier old.me (t log).sends l (k.range log e).sends));
      few = on_ok result (λ log e. at (λ z. HaveRoom z.sends) log e (log_room old.faults old.tier old.me (t log).sends small (few log).most));
      fits = λ log e. at (λ z. StandIn old.tier (open_at log) z.facts) log e (turn_stands old.faults old.tier log (t log) (few log) (k.range log e));
      opens = λ log e. at (λ z. open_at z.state.log ≡ open_after_all (open_at log) z.facts) log e
          (written_opens (open_at log) (open_at (t log).state) (t log).facts (few log).written);
      same = (k.same.0, (k.same.1.0, (refl, k.same.1.1)));
    })
  where
    -- what holds of the turn's move holds of the row
    at : (P : Move (Back Amounts) → Type 0) (log : LogState AnyValue) → old.part.mode ≡ Up log
        → P (back_move old.faults old.tier old.me (t log)) → P (move old.faults old.tier old.me (as_back old.faults old.tier log))
    at P log e m = subst P (sym (f log e ∙ in_log_is old.faults old.tier old.me log (t log) (none_learned old.tier (t log).state is (k.range log e).state))) m

pub back_quiet : (now : BackView) (a : DiskState) (out : List (End × List ℕ)) (move : Back Amounts
    → Move (Back Amounts)) (answer : Answer)
    → ((log : LogState AnyValue) → now.part.mode ≡ Up log → move (as_back now.faults now.tier log)
    ≡ record { state = as_back now.faults now.tier log; facts = []; sends = []; answer = answer })
    → BackMoves now now a a out out move (Ok answer)
back_quiet now a out move answer f = record {
  row = λ log e. subst (λ z. Makes (as_back now.faults now.tier) now.part now.part out out z (Ok answer))
      (sym (f log e)) (refl, (log, e, refl), refl, refl, sym (append-nil out), none_fit, refl);
  disk = λ log e. subst (λ (z : Move (Back Amounts)). Wrote a a now.part.place now.part.place z.facts (Ok answer))
      (sym (f log e)) (wrote_none a now.part.place answer);
  later = same_later a a refl;
  reach = λ log e. subst (λ (z : Move (Back Amounts)). AllReach now.faults z.sends) (sym (f log e)) (none_reach now.faults);
  few = λ log e. subst (λ (z : Move (Back Amounts)). HaveRoom z.sends) (sym (f log e)) none_room;
  fits = λ log e. subst (λ (z : Move (Back Amounts)). StandIn now.tier (open_at log) z.facts) (sym (f log e)) (nothing_stands now.tier (open_at log));
  opens = λ log e. subst (λ (z : Move (Back Amounts)). open_at z.state.log ≡ open_after_all (open_at log) z.facts) (sym (f log e)) refl;
  same = (refl, (refl, (refl, refl)));
}

pub frame_log : (u : ℕ) (t : Tier) (x : ℕ) (log : LogState AnyValue) (from : End) (m : PaxMsg AnyValue) (i : ℕ)
    → is_node_of u t from ≡ true → i ≡ end_index from
    → on_frame u (booking_service.backend t) t x (as_back u t log) from (msgs.Log m)
    ≡ in_log u (booking_service.backend t) t x (as_back u t log) (on_msg u log i m)
frame_log u t x log from m i e f =
    cond-true (is_node_of u t from) (in_log u (booking_service.backend t) t x (as_back u t log) (on_msg u log (end_index from) m)) (drops (as_back u t log) 7) e
    ∙ ap (λ z. in_log u (booking_service.backend t) t x (as_back u t log) (on_msg u log z m)) (sym f)

-- OFFERS

floors_low : (n y : ℕ) → floor_at (replicate n 1) y ≤ 1
floors_low zero y = omega arith
floors_low (suc n) zero = omega arith
floors_low (suc n) (suc y) = floors_low n y

due_low : (u k : ℕ) → due_among u (replicate 5 1) k ≤ 1
due_low u zero = omega arith
due_low u (suc k) = cond_both (is_more u (replicate 5 1) (due_among u (replicate 5 1) k) (floor_at (replicate 5 1) k)) (floor_at (replicate 5 1) k)
    (due_among u (replicate 5 1) k) (λ z. z ≤ 1) (λ e. floors_low 5 k) (λ e. due_low u k)

nothing_own : (u : ℕ) (t : Tier) (log : LogState AnyValue) → own_value (as_back u t log) ≡ None
nothing_own u t log = ap settle_value (cond-false (nat_lt 1 (due u (replicate 5 1))) (Some (due u (replicate 5 1))) None
    (false_from_ne_true (nat_lt 1 (due u (replicate 5 1))) (λ e.
    let l : 1 < due u (replicate 5 1) = ltb-true 1 (due u (replicate 5 1)) e in
    let k : due u (replicate 5 1) ≤ 1 = due_low u (2 * u + 1) in
    omega arith)))

-- no value was reported
never_taken : (u : ℕ) (t : Tier) (log : LogState AnyValue) (o : Option (Leader AnyValue)) → IsBackend t
    → (l : Leader AnyValue) → IsLeaderIn (CanStand t) FitsBallot l → is_taken (open_at log) l ≡ false
never_taken u t log o b l k = go (open_at log == l.led_at) (is_none l.best) (no_report t l.led_at l.best b k.best)
  where
    go : (a n : Bool) → n ≡ true → (a && not n) ≡ false
    go true true e = refl
    go true false e = absurd (cc)
    go false n e = refl

abbrev NotTaken : Offering → Type 0
NotTaken NotLeader = Unit {0}
NotTaken (NoPromises h) = Unit {0}
NotTaken (InFlight p) = Unit {0}
NotTaken LogFull = Unit {0}
NotTaken Taken = ⊥
NotTaken (Free p) = Unit {0}

wants_other : (u : ℕ) (t : Tier) (log : LogState AnyValue) → IsBackend t → IsLogIn (CanStand t) FitsBallot log → NotTaken (log_wants u log)
wants_other u t log b k = go log.leader k.leader
  where
    go : (o : Option (Leader AnyValue)) → IfSome o (IsLeaderIn (CanStand t) FitsBallot) → NotTaken (wants_as u log o)
    go None n = tt
    go (Some l) n = cond_both (nat_le (promised_by u l) u) _ _ NotTaken (λ e. tt)
        (λ e. cond_both (open_at log == POSITIONS) _ _ NotTaken (λ e. tt)
        (λ e. cond_both (is_at l.last (open_at log)) _ _ NotTaken (λ e. tt)
        (λ e. cond_both (is_taken (open_at log) l) Taken (Free (open_at log)) NotTaken
        (λ e. absurd (let f = never_taken u t log (Some l) b l n in cc)) (λ e. tt))))

offer_idle : (u : ℕ) (t : Tier) (x : ℕ) (log : LogState AnyValue) (w : Offering) (cause : Idle)
    → offer_cause w ≡ Some cause → offers_as u (booking_service.backend t) t x (as_back u t log) w ≡ idles (as_back u t log) cause
offer_idle u t x log NotLeader cause e = let f : why.NotLeader ≡ cause = cc in ap (λ z. idles (as_back u t log) z) f
offer_idle u t x log (NoPromises h) cause e = let f : why.NoPromises h ≡ cause = cc in ap (λ z. idles (as_back u t log) z) f
offer_idle u t x log (InFlight p) cause e = let f : why.InFlight p ≡ cause = cc in ap (λ z. idles (as_back u t log) z) f
offer_idle u t x log LogFull cause e = let f : why.LogFull ≡ cause = cc in ap (λ z. idles (as_back u t log) z) f
offer_idle u t x log Taken cause e = absurd (cc)
offer_idle u t x log (Free p) cause e = absurd (cc)

offer_none : (u : ℕ) (t : Tier) (x : ℕ) (log : LogState AnyValue) (w : Offering) → NotTaken w → offer_cause w ≡ None
    → offers_as u (booking_service.backend t) t x (as_back u t log) w ≡ idles (as_back u t log) why.Nothing
offer_none u t x log NotLeader n e = absurd (cc)
offer_none u t x log (NoPromises h) n e = absurd (cc)
offer_none u t x log (InFlight p) n e = absurd (cc)
offer_none u t x log LogFull n e = absurd (cc)
offer_none u t x log Taken n e = absurd n
offer_none u t x log (Free p) n e = ap
    (λ o. cond (is_some o)
    (in_log u (booking_service.backend t) t x (as_back u t log) (offer u x log (own_value (as_back u t log))))
    (idles (as_back u t log) why.Nothing)) (nothing_own u t log)

pub offers_idle : (n : LogView) (now : BackView) (a : DiskState) (out : List (End × List ℕ)) (w : Offering)
    (cause : Idle) → back_view n ≡ now → ((log : LogState AnyValue) → n.part.mode ≡ Up log → w ≡ log_wants n.faults log)
    → offer_cause w ≡ Some cause
    → BackMoves now now a a out out (λ σ. offers now.faults (booking_service.backend now.tier) now.tier now.me σ) (Ok (Idles cause))
offers_idle n now a out w cause v f e = subst
    (λ (z : BackView). BackMoves z z a a out out (λ σ. offers z.faults (booking_service.backend z.tier) z.tier z.me σ)
    (Ok (Idles cause))) v
    (back_quiet (back_view n) a out (λ σ. offers n.faults (booking_service.backend n.tier) n.tier n.me σ) (Idles cause)
    (λ log m. offer_idle n.faults n.tier n.me log (log_wants n.faults log) cause (ap offer_cause (sym (f log m)) ∙ e)))

pub offers_none : (n : LogView) (now : BackView) (a : DiskState) (out : List (End × List ℕ)) (w : Offering)
    → back_view n ≡ now → IsBackend n.tier → IsRanged n
    → ((log : LogState AnyValue) → n.part.mode ≡ Up log → w ≡ log_wants n.faults log) → offer_cause w ≡ None
    → BackMoves now now a a out out (λ σ. offers now.faults (booking_service.backend now.tier) now.tier now.me σ) (Ok (Idles why.Nothing))
offers_none n now a out w v b range f e = subst
    (λ (z : BackView). BackMoves z z a a out out (λ σ. offers z.faults (booking_service.backend z.tier) z.tier z.me σ)
    (Ok (Idles why.Nothing))) v
    (back_quiet (back_view n) a out (λ σ. offers n.faults (booking_service.backend n.tier) n.tier n.me σ)
    (Idles why.Nothing)
    (λ log m. offer_none n.faults n.tier n.me log (log_wants n.faults log)
    (wants_other n.faults n.tier log b (range log m)) (ap offer_cause (sym (f log m)) ∙ e)))

-- ASKING AGAIN

retry_is : (u : ℕ) (t : Tier) (x : ℕ) (log : LogState AnyValue)
    → retry u t x (as_back u t log) ≡ says (as_back u t log) (log_packets t x (asks u x (open_at log)))
retry_is u t x log = ap (λ z. says (as_back u t log) z) (append-nil (log_packets t x (asks u x (open_at log))))

pub retries : (n : LogView) (now : BackView) (a : DiskState) (before after : List (End × List ℕ)) → back_view n ≡ now
    → n.me < 2 * n.faults + 1 → n.faults ≤ 2 → IsRanged n
    → ((log : LogState AnyValue) → n.part.mode ≡ Up log
    → after ≡ before ++ map sealed (log_packets n.tier n.me (asks n.faults n.me (open_at log))))
    → BackMoves now now a a before after (λ σ. retry now.faults now.tier now.me σ) (Ok Did)
retries n now a before after v l few range sent = subst
    (λ (z : BackView). BackMoves z z a a before after (λ σ. retry z.faults z.tier z.me σ) (Ok Did)) v (record {
      row = λ log e. subst (λ z. Makes (as_back n.faults n.tier) n.part n.part before after z (Ok Did)) (sym (retry_is n.faults n.tier n.me log)) (
        refl,
        (log, e, refl),
        refl,
        refl,
        sent log e,
        are_fit n.tier n.me (asks n.faults n.me (open_at log)) (omega arith)
            (sends_fit n.faults n.tier (asks n.faults n.me (open_at log)) (fits log e)),
        refl,
      );
      disk = λ log e. subst (λ (z : Move (Back Amounts)). Wrote a a n.part.place n.part.place z.facts (Ok Did))
          (sym (retry_is n.faults n.tier n.me log)) (wrote_none a n.part.place Did);
      later = same_later a a refl;
      reach = λ log e. subst (λ (z : Move (Back Amounts)). AllReach n.faults z.sends)
          (sym (retry_is n.faults n.tier n.me log)) (all_reach n.faults n.tier n.me (asks n.faults n.me (open_at log)) l (fits log e));
      few = λ log e. subst (λ (z : Move (Back Amounts)). HaveRoom z.sends) (sym (retry_is n.faults n.tier n.me log))
          (asks_room n.faults n.tier n.me (open_at log) few);
      fits = λ log e. subst (λ (z : Move (Back Amounts)). StandIn n.tier (open_at log) z.facts)
          (sym (retry_is n.faults n.tier n.me log)) (nothing_stands n.tier (open_at log));
      opens = λ log e. subst (λ (z : Move (Back Amounts)). open_at z.state.log ≡ open_after_all (open_at log) z.facts)
          (sym (retry_is n.faults n.tier n.me log)) refl;
      same = (refl, (refl, (refl, refl)));
    })
  where
    fits : (log : LogState AnyValue) → n.part.mode ≡ Up log → AllByRecursion (IsSendIn n.faults (CanStand n.tier) FitsBallot) (asks n.faults n.me (open_at log))
    fits log e = asks_in n.faults n.tier n.me (open_at log) (range log e).within

pub retries_none : (now : BackView) (a : DiskState) (before after : List (End × List ℕ)) (result : Result Answer Fault)
    → result ≡ Err faults.Memory → BackMoves now now a a before after (λ σ. retry now.faults now.tier now.me σ) result
retries_none now a before after result e = subst (λ z. BackMoves now now a a before after (λ σ. retry now.faults now.tier now.me σ) z) (sym e) (record {
  row = λ log m. tt;
  disk = λ log m. tt;
  later = same_later a a refl;
  reach = tt;
  few = tt;
  fits = λ log m. subst (λ (z : Move (Back Amounts)). StandIn now.tier (open_at log) z.facts)
      (sym (retry_is now.faults now.tier now.me log)) (nothing_stands now.tier (open_at log));
  opens = λ log m. subst (λ (z : Move (Back Amounts)). open_at z.state.log ≡ open_after_all (open_at log) z.facts)
      (sym (retry_is now.faults now.tier now.me log)) refl;
  same = (refl, (refl, (refl, refl)));
})
