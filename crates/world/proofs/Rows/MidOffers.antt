-- What a middle node offers and tells again while nothing is run.
use Rattle.std.proofs.Common.{◌≡◌, ℕ, ◌+◌, ◌*◌, ◌<◌, ◌≤◌, Bool, true, false, cond, List, [], ◌∷◌, ◌++◌, length, map}
use Rattle.std.proofs.Common.{take, refl, sym, ap, ◌∙◌, subst, inl, inr, arith, Option, Some, None, Result, Ok, Err}
use Rattle.std.proofs.Common.{zero, suc, append-nil}
use Rattle.std.specs.Prelude.{◌⊎◌, ◌&&◌, not, nat_lt, replicate, slice_index_or}
use Rattle.std.specs.List.{AllByRecursion}
use Rattle.std.proofs.lemmas.Bool.{cond_both, cond-true, ltb-true, false_from_ne_true}
use Rattle.aeg_base.specs.declared.names.End.{End}
use Rattle.aeg_disk.specs.Disk.{DiskState}
use Rattle.aeg_disk.proofs.Later.{same_later}
use Rattle.fact_journal.specs.Fitting.{open_after_all}
use Rattle.aeg_base.specs.declared.names.Tier.{Tier}
use Rattle.aeg_base.specs.declared.names.Tier.TheVariants.{Mid as InMid, Inv, Pay}
use Rattle.log_model.specs.declared.message.PaxMsg.{PaxMsg}
use Rattle.log_model.specs.declared.message.PaxMsg.TheVariants.{Ask}
use Rattle.log_model.specs.declared.turn.Offering.{Offering}
use Rattle.log_model.specs.declared.turn.Offering.TheVariants.{NotLeader, NoPromises, InFlight, LogFull, Taken, Free}
use Rattle.log_model.specs.Log.{LogState, Turn, open_at, is, count_below}
use Rattle.log_model.specs.Rows.{offer, wants as log_wants}
use Rattle.log_model.specs.Ranges.{IsLogIn, IsSendIn, IsTurnIn, IsOwnIn}
use Rattle.log_model.specs.Nodes.Mode.{Up}
use Rattle.log_model.proofs.Ranged.{offer_in}
use Rattle.log_values.specs.declared.any_value.AnyValue.{AnyValue}
use Rattle.log_values.specs.declared.any_value.AnyValue.TheVariants as values
use Rattle.log_values.specs.declared.mid_value.MidValue.TheVariants.{Batch, Verdict as Decided}
use Rattle.log_values.specs.declared.entry.Entry.{Entry}
use Rattle.log_values.specs.Fields.{FitsBallot}
use Rattle.log_values.specs.Values.{FitsMid}
use Rattle.tier_model.specs.declared.turn.Fault.{Fault}
use Rattle.tier_model.specs.declared.turn.Fault.TheVariants as faults
use Rattle.tier_model.specs.declared.turn.Turn.{Turn as Answer}
use Rattle.tier_model.specs.declared.turn.Turn.TheVariants.{Did, Idle as Idles}
use Rattle.tier_model.specs.declared.turn.Idle.{Idle}
use Rattle.tier_model.specs.declared.turn.Idle.TheVariants as why
use Rattle.std.specs.Option.{is_some as std_some}
use Rattle.round_model.specs.Lists.{is_some, is_nil, and_then, concat, each, odd, half}
use Rattle.round_model.specs.Tables.{tables0, fresh_pending, batch_of, Parked}
use Rattle.round_model.specs.declared.claim.Claim.{Claim}
use Rattle.round_model.specs.Verdicts.{no_claims, claim_of, is_backed, how_many, verdict, verdict_by, serial_if}
use Rattle.round_model.proofs.ShimLaws.{lowest_none}
use Rattle.tier_model.specs.Moves.{Move, idles, says, log_packets, asks, offer_cause}
use Rattle.tier_model.specs.Mid.{Mid, in_log}
use Rattle.tier_model.specs.MidRows.{own_batch, own_verdict, own_value, own_cause, offers_as, offers, again, retry}
use Rattle.tier_model.specs.MidRows.{calls_again, by_number, open_calls, haves_again, settle_to}
use Rattle.round_model.specs.Held.{none_held, highest, floor}
use Rattle.run_model.specs.BookingRuns.{booking_service}
use Rattle.world.specs.Parts.{CanStand, StandIn, MidPart, as_mid, Makes, Wrote, MidView, MidMoves, AllReach, HaveRoom, sealed}
use Rattle.world.specs.LogNodes.{LogView, IsRanged, OwnStands, needs_own, mid_mode, mid_part}
use Rattle.world.proofs.Turns.FewMessages.{IsFew, asks_room, offer_few}
use Rattle.world.proofs.Turns.SentAndWritten.{all_reach, sends_fit, are_fit}
use Rattle.world.proofs.Rows.PendingPlaces.{all-both, no_queue}
use Rattle.world.proofs.Rows.MidRows.{mid_view, mid_up, mid_quiet, mid_none, mid_move, in_log_is, at_most_one, wrote_none}
use Rattle.world.proofs.Turns.JournalsGrow.{nothing_stands, turn_stands, written_opens}

-- NO TOKENS

none_there : {A : Type 0} (n y : ℕ) → ◌≡◌ {A = Option A} (slice_index_or (replicate n None) y None) None
none_there zero y = refl
none_there (suc n) zero = refl
none_there {A} (suc n) (suc y) = none_there {A = A} n y

no_votes : (n : ℕ) (test : ℕ → Bool) → ((y : ℕ) → test y ≡ false) → ◌≡◌ {A = ℕ} (count_below n test) 0
no_votes zero test h = refl
no_votes (suc n) test h = subst (λ b. cond b 1 0 + count_below n test ≡ 0) (sym (h n)) (omega (arith, no_votes n test h))

pub votes_none : (u : ℕ) → ◌≡◌ {A = ℕ} (how_many u no_claims) 0
votes_none u = no_votes (2 * u + 1) (λ y. is_some (claim_of no_claims y)) (λ y. ap (λ (o : Option Claim). is_some o) (none_there {A = Claim} 5 y))

too_few : (u n : ℕ) → n ≡ 0 → nat_lt u n ≡ false
too_few u n e = false_from_ne_true (nat_lt u n) (λ t. let l : u < n = ltb-true u n t in omega arith)

verdict_none : (u : ℕ) → verdict u no_claims ≡ None
verdict_none u =
    ap (λ o. verdict_by (nat_lt u (how_many u no_claims)) (and_then o (claim_of no_claims)))
    (lowest_none (2 * u + 1) (λ y. is_backed u no_claims (claim_of no_claims y)) (λ y l. ap (is_backed u no_claims) (none_there {A = Claim} 5 y)))
    ∙ ap serial_if (too_few u (how_many u no_claims) (votes_none u))

own_verdict_none : (u x depth : ℕ) (part : MidPart) (r : ℕ) → own_verdict u (as_mid u x depth part) r ≡ None
own_verdict_none u x depth part r = ap (λ o. and_then o (λ v. Some (values.Mid (Decided v)))) (verdict_none u)

-- THE OWN VALUE

abbrev value_at_open : ℕ → ℕ → ℕ → MidPart → ℕ → Option AnyValue
value_at_open u x depth part f = cond (odd f) (own_verdict u (as_mid u x depth part) (half f))
    (own_batch booking_service.programs (as_mid u x depth part) (half f))

abbrev batch_or : Bool → Bool → List Entry → Option AnyValue
batch_or a b es = cond (a && b) None (Some (values.Mid (Batch es)))

is_nil-take : {A : Type 0} (xs ys : List A) → xs ≡ take 8 ys → is_nil xs ≡ is_nil ys
is_nil-take [] [] e = refl
is_nil-take [] (y ∷ ys) e = absurd (cc)
is_nil-take (x ∷ xs) [] e = absurd (cc)
is_nil-take (x ∷ xs) (y ∷ ys) e = refl

and_yes : (a : Bool) → (a && true) ≡ a
and_yes true = refl
and_yes false = refl

first_batch : (u x depth : ℕ) (part : MidPart) (es : List Entry)
    → es ≡ batch_of booking_service.programs (tables0 depth) part.pending
    → value_at_open u x depth part 0 ≡ cond (is_nil es) None (Some (values.Mid (Batch es)))
first_batch u x depth part es e =
    let a : is_nil es ≡ is_nil (fresh_pending booking_service.programs (tables0 depth) part.pending 16) = is_nil-take es
    (fresh_pending booking_service.programs (tables0 depth) part.pending 16) e in
    let b : is_nil (concat (tables0 depth).queue) ≡ true = ap (λ (z : List Parked). is_nil z) (no_queue depth) in
    ap (λ z. batch_or (is_nil (fresh_pending booking_service.programs (tables0 depth) part.pending 16)) z
    (batch_of booking_service.programs (tables0 depth) part.pending)) b
    ∙ (ap (λ z. batch_or z true (batch_of booking_service.programs (tables0 depth) part.pending)) (sym a)
    ∙ (ap (λ z. batch_or (is_nil es) true z) (sym e)
    ∙ ap (λ z. cond z None (Some (values.Mid (Batch es)))) (and_yes (is_nil es))))

pub value_past : (u x depth : ℕ) (part : MidPart) → open_at part.log ≡ 1 → own_value u booking_service.programs (as_mid u x depth part) ≡ None
value_past u x depth part e = ap (λ f. value_at_open u x depth part f) e ∙ own_verdict_none u x depth part 0

pub value_empty : (u x depth : ℕ) (part : MidPart) (es : List Entry) → open_at part.log ≡ 0
    → es ≡ batch_of booking_service.programs (tables0 depth) part.pending → es ≡ []
    → own_value u booking_service.programs (as_mid u x depth part) ≡ None
value_empty u x depth part es o e n = ap (λ f. value_at_open u x depth part f) o
    ∙ (first_batch u x depth part es e ∙ ap (λ z. cond (is_nil z) None (Some (values.Mid (Batch es)))) n)

pub value_batch : (u x depth : ℕ) (part : MidPart) (es : List Entry) → open_at part.log ≡ 0
    → es ≡ batch_of booking_service.programs (tables0 depth) part.pending → (es ≡ [] → ⊥)
    → own_value u booking_service.programs (as_mid u x depth part) ≡ Some (values.Mid (Batch es))
value_batch u x depth part es o e n = ap (λ f. value_at_open u x depth part f) o ∙ (first_batch u x depth part es e ∙ some es n)
  where
    some : (xs : List Entry) → (xs ≡ [] → ⊥) → cond (is_nil xs) None (Some (values.Mid (Batch es))) ≡ Some (values.Mid (Batch es))
    some [] n = absurd (n refl)
    some (x ∷ xs) n = refl

abbrev cause_at : ℕ → ℕ → MidPart → ℕ → Idle
cause_at u depth part f = cond (odd f) (why.NoTokens (how_many u no_claims)) (cond (nat_lt 0 (half f)) (why.Unapplied 0) why.Nothing)

pub cause_past : (u x depth : ℕ) (part : MidPart) → open_at part.log ≡ 1 → why.NoTokens 0 ≡ own_cause u (as_mid u x depth part)
cause_past u x depth part e = sym (ap (λ f. cause_at u depth part f) e ∙ ap (λ z. why.NoTokens z) (votes_none u))

-- OFFERS

offer_idle : (u x : ℕ) (σ : Mid) (w : Offering) (cause : Idle) → offer_cause w ≡ Some cause → offers_as u booking_service.programs x σ w ≡ idles σ cause
offer_idle u x σ NotLeader cause e = let f : why.NotLeader ≡ cause = cc in ap (λ z. idles σ z) f
offer_idle u x σ (NoPromises h) cause e = let f : why.NoPromises h ≡ cause = cc in ap (λ z. idles σ z) f
offer_idle u x σ (InFlight p) cause e = let f : why.InFlight p ≡ cause = cc in ap (λ z. idles σ z) f
offer_idle u x σ LogFull cause e = let f : why.LogFull ≡ cause = cc in ap (λ z. idles σ z) f
offer_idle u x σ Taken cause e = absurd (cc)
offer_idle u x σ (Free p) cause e = absurd (cc)

offer_none : (u x : ℕ) (σ : Mid) (w : Offering) → needs_own w ≡ true → own_value u booking_service.programs σ ≡ None
    → offers_as u booking_service.programs x σ w ≡ idles σ (own_cause u σ)
offer_none u x σ NotLeader n e = absurd (cc)
offer_none u x σ (NoPromises h) n e = absurd (cc)
offer_none u x σ (InFlight p) n e = absurd (cc)
offer_none u x σ LogFull n e = absurd (cc)
offer_none u x σ Taken n e = absurd (cc)
offer_none u x σ (Free p) n e = ap
    (λ o. cond (is_some o)
    (in_log u booking_service.programs x σ (offer u x σ.log (own_value u booking_service.programs σ))) (idles σ (own_cause u σ))) e

offer_some : (u x : ℕ) (σ : Mid) (w : Offering) → offer_cause w ≡ None
    → (is_some (own_value u booking_service.programs σ) ≡ true) ⊎ (needs_own w ≡ false)
    → offers_as u booking_service.programs x σ w
    ≡ in_log u booking_service.programs x σ (offer u x σ.log (own_value u booking_service.programs σ))
offer_some u x σ NotLeader n k = absurd (cc)
offer_some u x σ (NoPromises h) n k = absurd (cc)
offer_some u x σ (InFlight p) n k = absurd (cc)
offer_some u x σ LogFull n k = absurd (cc)
offer_some u x σ Taken n k = refl
offer_some u x σ (Free p) n (inl e) = cond-true (is_some (own_value u booking_service.programs σ))
    (in_log u booking_service.programs x σ (offer u x σ.log (own_value u booking_service.programs σ))) (idles σ (own_cause u σ)) e
offer_some u x σ (Free p) n (inr e) = absurd (cc)

-- something stands in the way
pub offers_idle : (now : MidView) (a : DiskState) (out : List (End × List ℕ)) (w : Offering) (cause : Idle)
    → ((part : MidPart) → now.part.mode ≡ Up part → w ≡ log_wants now.faults part.log) → offer_cause w ≡ Some cause
    → MidMoves now now a a out out (λ σ. offers now.faults booking_service.programs now.me σ) (Ok (Idles cause))
offers_idle now a out w cause f e = mid_quiet now a out (λ σ. offers now.faults booking_service.programs now.me σ)
    (Idles cause) (λ part m. offer_idle now.faults now.me (as_mid now.faults now.me now.depth part)
    (log_wants now.faults part.log) cause (ap offer_cause (sym (f part m)) ∙ e))

-- there is nothing to offer
pub offers_none : (now : MidView) (a : DiskState) (out : List (End × List ℕ)) (w : Offering) (own : Option AnyValue)
    (cause : Idle) → ((part : MidPart) → now.part.mode ≡ Up part → w ≡ log_wants now.faults part.log)
    → needs_own w ≡ true
    → ((part : MidPart) → now.part.mode ≡ Up part
    → own ≡ own_value now.faults booking_service.programs (as_mid now.faults now.me now.depth part)) → own ≡ None
    → ((part : MidPart) → now.part.mode ≡ Up part
    → cause ≡ own_cause now.faults (as_mid now.faults now.me now.depth part))
    → MidMoves now now a a out out (λ σ. offers now.faults booking_service.programs now.me σ) (Ok (Idles cause))
offers_none now a out w own cause f n g e h = mid_quiet now a out (λ σ. offers now.faults booking_service.programs now.me σ) (Idles cause) (λ part m.
    offer_none now.faults now.me (as_mid now.faults now.me now.depth part) (log_wants now.faults part.log)
    (ap needs_own (sym (f part m)) ∙ n) (sym (g part m) ∙ e)
    ∙ ap (λ z. idles (as_mid now.faults now.me now.depth part) z) (sym (h part m)))

-- the row is the log's offer
pub offers_log : (u x depth : ℕ) (part : MidPart) (w : Offering) (own : Option AnyValue) → w ≡ log_wants u part.log
    → offer_cause w ≡ None → own ≡ own_value u booking_service.programs (as_mid u x depth part) → (is_some own ≡ true)
    ⊎ (needs_own w ≡ false)
    → offers u booking_service.programs x (as_mid u x depth part) ≡ in_log u booking_service.programs x (as_mid u x depth part) (offer u x part.log own)
offers_log u x depth part w own f n g k =
    subst (λ z. offers_as u booking_service.programs x (as_mid u x depth part) z
    ≡ in_log u booking_service.programs x (as_mid u x depth part)
    (offer u x part.log (own_value u booking_service.programs (as_mid u x depth part)))) f
    (offer_some u x (as_mid u x depth part) w n (subst (λ z. (is_some z ≡ true) ⊎ (needs_own w ≡ false)) g k))
    ∙ ap (λ z. in_log u booking_service.programs x (as_mid u x depth part) (offer u x part.log z)) (sym g)

-- its own value can stand at the first open position
own_in : (u x depth : ℕ) (part : MidPart) (es : List Entry) → open_at part.log ≤ 1
    → es ≡ batch_of booking_service.programs (tables0 depth) part.pending → FitsMid (Batch es)
    → IsOwnIn (CanStand InMid) (open_at part.log) (own_value u booking_service.programs (as_mid u x depth part))
own_in u x depth part es l made fit = go (open_at part.log) refl l
  where
    go : (f : ℕ) → open_at part.log ≡ f → f ≤ 1 → IsOwnIn (CanStand InMid) (open_at part.log) (own_value u booking_service.programs (as_mid u x depth part))
    go zero o k = subst (λ z. IsOwnIn (CanStand InMid) z (own_value u booking_service.programs (as_mid u x depth part))) (sym o)
        (subst (λ z. IsOwnIn (CanStand InMid) 0 z) (sym (ap (λ f. value_at_open u x depth part f) o ∙ first_batch u x depth part es made))
        (cond_both (is_nil es) None (Some (values.Mid (Batch es))) (IsOwnIn (CanStand InMid) 0) (λ e. tt) (λ e. (fit, refl))))
    go (suc zero) o k = subst (λ z. IsOwnIn (CanStand InMid) (open_at part.log) z) (sym (value_past u x depth part o)) tt
    go (suc (suc f)) o k = absurd (omega arith)

-- what holds where it is idle and where it offers holds of the row
offers_by : (P : Move Mid → Type 0) (u x : ℕ) (σ : Mid) (w : Offering) → ((cause : Idle) → P (idles σ cause))
    → P (in_log u booking_service.programs x σ (offer u x σ.log (own_value u booking_service.programs σ)))
    → P (offers_as u booking_service.programs x σ w)
offers_by P u x σ NotLeader i l = i why.NotLeader
offers_by P u x σ (NoPromises h) i l = i (why.NoPromises h)
offers_by P u x σ (InFlight p) i l = i (why.InFlight p)
offers_by P u x σ LogFull i l = i why.LogFull
offers_by P u x σ Taken i l = l
offers_by P u x σ (Free p) i l = cond_both (is_some (own_value u booking_service.programs σ))
    (in_log u booking_service.programs x σ (offer u x σ.log (own_value u booking_service.programs σ)))
    (idles σ (own_cause u σ)) P (λ e. l) (λ e. i (own_cause u σ))

offers_stand : (P : Move Mid → Type 0) (u x depth : ℕ) (part : MidPart) → IsLogIn (CanStand InMid) FitsBallot part.log
    → IsOwnIn (CanStand InMid) (open_at part.log) (own_value u booking_service.programs (as_mid u x depth part))
    → ((cause : Idle) → P (idles (as_mid u x depth part) cause))
    → ((turn : Turn AnyValue) → IsFew u part.log turn → IsTurnIn u (CanStand InMid) FitsBallot turn
    → P (mid_move u depth part.pending x turn)) → P (offers u booking_service.programs x (as_mid u x depth part))
offers_stand P u x depth part range own idle f =
    let turn = offer u x part.log (own_value u booking_service.programs (as_mid u x depth part)) in
    let k = offer_in u (CanStand InMid) FitsBallot x part.log (own_value u booking_service.programs (as_mid u x depth part)) range own in
    offers_by P u x (as_mid u x depth part) (log_wants u part.log) idle
    (subst P (sym (in_log_is u depth x part.log part.pending turn (at_most_one turn.state k.state)))
    (f turn (offer_few u x part.log (own_value u booking_service.programs (as_mid u x depth part))) k))

-- where there was no memory for its value
pub offers_memory : (now : MidView) (a : DiskState) (out : List (End × List ℕ)) (result : Result Answer Fault)
    → now.tier ≡ InMid → ((part : MidPart) → now.part.mode ≡ Up part → IsLogIn (CanStand InMid) FitsBallot part.log)
    → OwnStands now → result ≡ Err faults.Memory
    → MidMoves now now a a out out (λ σ. offers now.faults booking_service.programs now.me σ) result
offers_memory now a out result tier range own e = mid_none now a out out (λ σ. offers now.faults booking_service.programs now.me σ) result tier
    (λ part m. offers_stand (λ z. StandIn InMid (open_at part.log) z.facts) now.faults now.me now.depth part
    (range part m) (own part m) (λ cause. nothing_stands InMid (open_at part.log))
    (λ turn few k. turn_stands now.faults InMid part.log turn few k))
    (λ part m. offers_stand (λ z. open_at z.state.log ≡ open_after_all (open_at part.log) z.facts) now.faults now.me
    now.depth part (range part m) (own part m) (λ cause. refl)
    (λ turn few k. written_opens (open_at part.log) (open_at turn.state) turn.facts few.written))
    e

-- ASKING AGAIN

again_none : (u x depth : ℕ) (part : MidPart) → again u x (as_mid u x depth part) ≡ []
again_none u x depth part = ap (λ q. calls_again u x (by_number (open_calls (none_held u x) Inv q))
    ++ (calls_again u x (by_number (open_calls (none_held u x) Pay q))
    ++ (haves_again u x Inv (highest (none_held u x) Inv) ++ (haves_again u x Pay (highest (none_held u x) Pay)
    ++ (settle_to u x Inv (floor (none_held u x) Inv) ++ settle_to u x Pay (floor (none_held u x) Pay)))))) (no_queue depth)

retry_is : (u x depth : ℕ) (part : MidPart) → retry u x (as_mid u x depth part)
    ≡ says (as_mid u x depth part) (log_packets InMid x (asks u x (open_at part.log)))
retry_is u x depth part = ap
    (λ z. says (as_mid u x depth part) (log_packets InMid x (asks u x (open_at part.log)) ++ z))
    (again_none u x depth part)
    ∙ ap (λ z. says (as_mid u x depth part) z) (append-nil (log_packets InMid x (asks u x (open_at part.log))))

each_in : (u : ℕ) (t : Tier) (n : ℕ) (skip : ℕ → Bool) (p : ℕ) → n ≤ 2 * u + 1 → p ≤ 4096
    → AllByRecursion (IsSendIn u (CanStand t) FitsBallot) (each n skip (λ y. (y, Ask p)))
each_in u t zero skip p k l = tt
each_in u t (suc n) skip p k l = all-both {A = ℕ × PaxMsg AnyValue} (IsSendIn u (CanStand t) FitsBallot)
    (each n skip (λ y. (y, Ask p))) _ (each_in u t n skip p (omega arith) l)
    (cond_both (skip n) [] ((n, Ask p) ∷ [])
    (AllByRecursion {X = ℕ × PaxMsg AnyValue} (IsSendIn u (CanStand t) FitsBallot)) (λ e. tt) (λ e. ((omega arith, l), tt)))

pub asks_in : (u : ℕ) (t : Tier) (x p : ℕ) → p ≤ 4096 → AllByRecursion (IsSendIn u (CanStand t) FitsBallot) (asks u x p)
asks_in u t x p l = each_in u t (2 * u + 1) (is x) p (omega arith) l

pub retries : (n : LogView) (depth : ℕ) (pending : List (Option Entry)) (now : MidView) (a : DiskState)
    (before after : List (End × List ℕ)) → mid_view n depth pending ≡ now → n.tier ≡ InMid → n.me < 2 * n.faults + 1
    → n.faults ≤ 2 → IsRanged n
    → ((log : LogState AnyValue) → n.part.mode ≡ Up log
    → after ≡ before ++ map sealed (log_packets n.tier n.me (asks n.faults n.me (open_at log))))
    → MidMoves now now a a before after (λ σ. retry now.faults now.me σ) (Ok Did)
retries n depth pending now a before after v tier l few range sent = subst
    (λ (z : MidView). MidMoves z z a a before after (λ σ. retry z.faults z.me σ) (Ok Did)) v (record {
      row = λ part e. let q = mid_up n.part.mode pending part e in
          subst (λ z. Makes (as_mid n.faults n.me depth) (mid_part n.part pending) (mid_part n.part pending) before after z
          (Ok Did)) (sym (retry_is n.faults n.me depth part)) (
            refl,
            (part, e, refl),
            refl,
            refl,
            subst (λ t. after ≡ before ++ map sealed (log_packets t n.me (asks n.faults n.me (open_at part.log)))) tier (sent part.log q.0),
            are_fit InMid n.me (asks n.faults n.me (open_at part.log)) (omega arith)
                (sends_fit n.faults InMid (asks n.faults n.me (open_at part.log)) (fits part q.0)),
            refl,
          );
      disk = λ part e. subst (λ (z : Move Mid). Wrote a a n.part.place n.part.place z.facts (Ok Did))
          (sym (retry_is n.faults n.me depth part)) (wrote_none a n.part.place Did);
      later = same_later a a refl;
      reach = λ part e. let q = mid_up n.part.mode pending part e in
          subst (λ (z : Move Mid). AllReach n.faults z.sends) (sym (retry_is n.faults n.me depth part))
          (all_reach n.faults InMid n.me (asks n.faults n.me (open_at part.log)) l (fits part q.0));
      few = λ part e. subst (λ (z : Move Mid). HaveRoom z.sends) (sym (retry_is n.faults n.me depth part))
          (asks_room n.faults InMid n.me (open_at part.log) few);
      fits = λ part e. subst (λ (z : Move Mid). StandIn InMid (open_at part.log) z.facts)
          (sym (retry_is n.faults n.me depth part)) (nothing_stands InMid (open_at part.log));
      opens = λ part e. subst (λ (z : Move Mid). open_at z.state.log ≡ open_after_all (open_at part.log) z.facts)
          (sym (retry_is n.faults n.me depth part)) refl;
      same = (refl, (refl, (refl, refl)));
    })
  where
    fits : (part : MidPart) → n.part.mode ≡ Up part.log → AllByRecursion (IsSendIn n.faults (CanStand InMid) FitsBallot) (asks n.faults n.me (open_at part.log))
    fits part e = asks_in n.faults InMid n.me (open_at part.log) (range part.log e).within

-- AS THE NODE'S CALLS NEED IT

abbrev pub Opens : LogView → ℕ → Type 0
Opens n f = (log : LogState AnyValue) → n.part.mode ≡ Up log → f ≡ open_at log

open_past : (n : LogView) (pending : List (Option Entry)) (f : ℕ) (part : MidPart) → n.tier ≡ InMid → IsRanged n
    → Opens n f → 0 < f → mid_mode n.part.mode pending ≡ Up part → open_at part.log ≡ 1
open_past n pending f part tier range opens l e =
    let q = mid_up n.part.mode pending part e in
    let r : IsLogIn (CanStand InMid) FitsBallot part.log = subst (λ t. IsLogIn (CanStand t) FitsBallot part.log) tier (range part.log q.0) in
    omega (arith, at_most_one part.log r, opens part.log q.0)

open_first : (n : LogView) (pending : List (Option Entry)) (f : ℕ) (part : MidPart) → Opens n f → f ≤ 0
    → mid_mode n.part.mode pending ≡ Up part → open_at part.log ≡ 0
open_first n pending f part opens l e = omega (arith, opens part.log (mid_up n.part.mode pending part e).0)

pub own_past : (n : LogView) (depth : ℕ) (pending : List (Option Entry)) (now : MidView) (f : ℕ)
    → mid_view n depth pending ≡ now → n.tier ≡ InMid → IsRanged n → Opens n f → 0 < f
    → (part : MidPart) → now.part.mode ≡ Up part → None ≡ own_value now.faults booking_service.programs (as_mid now.faults now.me now.depth part)
own_past n depth pending now f v tier range opens l = subst (λ (z : MidView). (part : MidPart) → z.part.mode ≡ Up part
    → None ≡ own_value z.faults booking_service.programs (as_mid z.faults z.me z.depth part)) v
    (λ part e. sym (value_past n.faults n.me depth part (open_past n pending f part tier range opens l e)))

pub own_empty : (n : LogView) (depth : ℕ) (pending : List (Option Entry)) (now : MidView) (f : ℕ) (es : List Entry)
    → mid_view n depth pending ≡ now → Opens n f → f ≤ 0
    → ((d : ℕ) → es ≡ batch_of booking_service.programs (tables0 d) pending) → es ≡ []
    → (part : MidPart) → now.part.mode ≡ Up part → None ≡ own_value now.faults booking_service.programs (as_mid now.faults now.me now.depth part)
own_empty n depth pending now f es v opens l made none = subst (λ (z : MidView). (part : MidPart)
    → z.part.mode ≡ Up part → None ≡ own_value z.faults booking_service.programs (as_mid z.faults z.me z.depth part)) v
    (λ part e. sym (value_empty n.faults n.me depth part es (open_first n pending f part opens l e) (made depth
    ∙ ap (λ z. batch_of booking_service.programs (tables0 depth) z) (sym (mid_up n.part.mode pending part e).1)) none))

pub own_batched : (n : LogView) (depth : ℕ) (pending : List (Option Entry)) (now : MidView) (f : ℕ) (es : List Entry)
    → mid_view n depth pending ≡ now → Opens n f → f ≤ 0
    → ((d : ℕ) → es ≡ batch_of booking_service.programs (tables0 d) pending) → (es ≡ [] → ⊥)
    → (part : MidPart) → now.part.mode ≡ Up part
    → Some (values.Mid (Batch es)) ≡ own_value now.faults booking_service.programs (as_mid now.faults now.me now.depth part)
own_batched n depth pending now f es v opens l made some = subst (λ (z : MidView). (part : MidPart)
    → z.part.mode ≡ Up part
    → Some (values.Mid (Batch es)) ≡ own_value z.faults booking_service.programs (as_mid z.faults z.me z.depth part)) v
    (λ part e. sym (value_batch n.faults n.me depth part es (open_first n pending f part opens l e) (made depth
    ∙ ap (λ z. batch_of booking_service.programs (tables0 depth) z) (sym (mid_up n.part.mode pending part e).1)) some))

pub past_cause : (n : LogView) (depth : ℕ) (pending : List (Option Entry)) (now : MidView) (f : ℕ)
    → mid_view n depth pending ≡ now → n.tier ≡ InMid → IsRanged n → Opens n f → 0 < f
    → (part : MidPart) → now.part.mode ≡ Up part → why.NoTokens 0 ≡ own_cause now.faults (as_mid now.faults now.me now.depth part)
past_cause n depth pending now f v tier range opens l = subst (λ (z : MidView). (part : MidPart) → z.part.mode ≡ Up part
    → why.NoTokens 0 ≡ own_cause z.faults (as_mid z.faults z.me z.depth part)) v
    (λ part e. cause_past n.faults n.me depth part (open_past n pending f part tier range opens l e))

-- what is known of a part that is up is known of the log
pub wants_at : (n : LogView) (depth : ℕ) (pending : List (Option Entry)) (now : MidView) (w : Offering)
    → mid_view n depth pending ≡ now → ((log : LogState AnyValue) → n.part.mode ≡ Up log → w ≡ log_wants n.faults log)
    → (part : MidPart) → now.part.mode ≡ Up part → w ≡ log_wants now.faults part.log
wants_at n depth pending now w v f = subst (λ (z : MidView). (part : MidPart) → z.part.mode ≡ Up part
    → w ≡ log_wants z.faults part.log) v (λ part e. f part.log (mid_up n.part.mode pending part e).0)

pub offers_row : (n : LogView) (depth : ℕ) (pending : List (Option Entry)) (now : MidView) (w : Offering)
    (own : Option AnyValue) → mid_view n depth pending ≡ now
    → ((log : LogState AnyValue) → n.part.mode ≡ Up log → w ≡ log_wants n.faults log) → offer_cause w ≡ None
    → ((part : MidPart) → now.part.mode ≡ Up part
    → own ≡ own_value now.faults booking_service.programs (as_mid now.faults now.me now.depth part))
    → (is_some own ≡ true) ⊎ (needs_own w ≡ false) → (log : LogState AnyValue) → n.part.mode ≡ Up log
    → offers n.faults booking_service.programs n.me
    (as_mid n.faults n.me depth (record { log = log; pending = pending }))
    ≡ in_log n.faults booking_service.programs n.me
    (as_mid n.faults n.me depth (record { log = log; pending = pending })) (offer n.faults n.me log own)
offers_row n depth pending now w own v f c g k log e = offers_log n.faults n.me depth (record { log = log; pending = pending }) w own (f log e) c
    (subst (λ (z : MidView). ((part : MidPart) → z.part.mode ≡ Up part
    → own ≡ own_value z.faults booking_service.programs (as_mid z.faults z.me z.depth part))) (sym v) g
    (record { log = log; pending = pending }) (ap (λ z. mid_mode z pending) e)) k

-- what an own value is by its tests
pub none_of : (o : Option AnyValue) (b : Bool) → std_some o ≡ not b → b ≡ true → o ≡ None
none_of None b e f = refl
none_of (Some v) true e f = absurd (cc)
none_of (Some v) false e f = absurd (cc)

pub some_of : (o : Option AnyValue) (b : Bool) → std_some o ≡ not b → b ≡ false → is_some o ≡ true
some_of (Some v) b e f = refl
some_of None true e f = absurd (cc)
some_of None false e f = absurd (cc)

pub some_if : (xs : List Entry) → (length xs ≡ 0 → ⊥) → xs ≡ [] → ⊥
some_if xs n e = n (ap length e)

-- OF THE NODE'S PART

pub range_at : (n : LogView) (depth : ℕ) (pending : List (Option Entry)) (now : MidView)
    → mid_view n depth pending ≡ now → n.tier ≡ InMid → IsRanged n → (part : MidPart) → now.part.mode ≡ Up part
    → IsLogIn (CanStand InMid) FitsBallot part.log
range_at n depth pending now v tier range = subst (λ (z : MidView). (part : MidPart) → z.part.mode ≡ Up part
    → IsLogIn (CanStand InMid) FitsBallot part.log) v
    (λ part e. subst (λ t. IsLogIn (CanStand t) FitsBallot part.log) tier (range part.log (mid_up n.part.mode pending part e).0))

pub own_stands : (n : LogView) (depth : ℕ) (pending : List (Option Entry)) (now : MidView)
    → mid_view n depth pending ≡ now → n.tier ≡ InMid → IsRanged n
    → ((d : ℕ) → FitsMid (Batch (batch_of booking_service.programs (tables0 d) pending))) → OwnStands now
own_stands n depth pending now v tier range fit = subst OwnStands v
    (λ part e. own_in n.faults n.me depth part (batch_of booking_service.programs (tables0 depth) part.pending)
    (at_most_one part.log (range_at n depth pending (mid_view n depth pending) refl tier range part e)) refl
    (subst (λ z. FitsMid (Batch (batch_of booking_service.programs (tables0 depth) z)))
    (sym (mid_up n.part.mode pending part e).1) (fit depth)))

pub past_stands : (n : LogView) (depth : ℕ) (pending : List (Option Entry)) (now : MidView) (f : ℕ)
    → mid_view n depth pending ≡ now → n.tier ≡ InMid → IsRanged n → Opens n f → 0 < f → OwnStands now
past_stands n depth pending now f v tier range opens l part e = subst
    (λ z. IsOwnIn (CanStand InMid) (open_at part.log) z) (own_past n depth pending now f v tier range opens l part e) tt

pub retries_none : (n : LogView) (depth : ℕ) (pending : List (Option Entry)) (now : MidView) (a : DiskState)
    (before after : List (End × List ℕ)) (result : Result Answer Fault) → mid_view n depth pending ≡ now
    → result ≡ Err faults.Memory → MidMoves now now a a before after (λ σ. retry now.faults now.me σ) result
retries_none n depth pending now a before after result v e = mid_none now a before after
    (λ σ. retry now.faults now.me σ) result (ap (λ (z : MidView). z.tier) (sym v))
    (λ part m. subst (λ (z : Move Mid). StandIn InMid (open_at part.log) z.facts)
    (sym (retry_is now.faults now.me now.depth part)) (nothing_stands InMid (open_at part.log)))
    (λ part m. subst (λ (z : Move Mid). open_at z.state.log ≡ open_after_all (open_at part.log) z.facts) (sym (retry_is now.faults now.me now.depth part)) refl)
    e
