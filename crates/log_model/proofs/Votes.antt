-- The rows that vote and learn are right by themselves.
use Rattle.std.proofs.Common.{◌≡◌, ℕ, ◌+◌, ◌*◌, ◌<◌, ◌≤◌, Bool, true, false, cond, List, [], ◌∷◌, ◌++◌, length, refl}
use Rattle.std.proofs.Common.{sym, ap, ◌∙◌, subst, inl, inr, arith, Option, Some, None, zero, suc}
use Rattle.std.specs.Prelude.{slice_get, nat_lt, nat_le, ◌==◌, ◌⊎◌, IfSome}
use Rattle.std.proofs.lemmas.Bool.{cond_both, eq-eqb, ltb-true, leb-false, cond-true, and_from, lt-ltb, false_from_ne_true}
use Rattle.aeg_base.specs.Ballots.{same_ballot, is_below}
use Rattle.aeg_base.specs.declared.names.Ballot.{Ballot}
use Rattle.aeg_base.specs.declared.limits.TheConstants.{POSITIONS}
use Rattle.log_model.specs.declared.fact.Fact.{Fact}
use Rattle.log_model.specs.declared.fact.Fact.TheVariants.{Accepted as Voted, Learned}
use Rattle.log_model.specs.declared.message.PaxMsg.{PaxMsg}
use Rattle.log_model.specs.declared.message.PaxMsg.TheVariants.{Prepare, Promise, Accept, Accepted, Ask, Learn, Behind}
use Rattle.log_model.specs.declared.turn.LogIdle.TheVariants.{Stale, Behind as IsBehind, Nothing}
use Rattle.log_model.specs.Log.{Leader, LogState, open_at, has, seen_at, count_below, to_each, nobody, is, is_at}
use Rattle.log_model.specs.Log.{has_ballot, is_ballot, is_from, noted, with_ballot}
use Rattle.log_model.specs.Rows.{promised_by, to_offer, offers, offer_as, kept_leader, accepts, says_again, on_accept}
use Rattle.log_model.specs.Rows.{learns, learned_turn, notes, on_accepted, on_learn, on_ask, on_msg}
use Rattle.log_model.specs.Recover.{promised_in, learned_in, accepted_in}
use Rattle.log_model.specs.World.{Packet}
use Rattle.log_model.specs.Chosen.{is_vote, has_sent, Meets}
use Rattle.log_model.proofs.Ballots.{key, limit, same_true, same_refl, not_below_key}
use Rattle.log_model.proofs.Basics.{between, get_push, length_push, set_cases, nothing_seen, Every, every-append, every-to_each, count-more}
use Rattle.log_model.proofs.History.{opening, DidVote, Orderly, top_is, vote_is_low, accepted_voted, none_past, promises_below}
use Rattle.log_model.proofs.Invariant.{IsSafe, VoteOk, MsgOk, SendOk, LeaderOk, History, AllGrew, report-grew, backed-grew, safe-grew, vote-grew}
use Rattle.log_model.proofs.Invariant.{Rest, TurnOk}
use Rattle.log_model.proofs.Rows.{Known, votes_kept, promised_small, stays_ok, on_prepare_ok, on_promise_ok, still, idle_ok, tell_ok, low_accepted, offer_safe}

-- A VOTE

accepted_vote : {V : Type 0} (u : ℕ) (h : ℕ → List (Fact V)) (soup : List (Packet V)) (x : ℕ) (log : LogState V)
    → Known u h soup x log → IfSome log.accepted (λ c. DidVote (h x) (opening (h x)) c.0 c.1)
accepted_vote u h soup x log k = rw k.state.accepted (accepted_voted (h x) (opening (h x)))

-- the votes of x, with one more
votes_with : {V : Type 0} (u : ℕ) (h g : ℕ → List (Fact V)) (soup : List (Packet V)) (x : ℕ) (log : LogState V) (q : ℕ)
    (c : Ballot) (w : V) → Known u h soup x log → AllGrew h g → VoteOk u g q c w
    → (p : ℕ) (b : Ballot) (v : V) → DidVote (Voted q c w ∷ h x) p b v → VoteOk u g p b v
votes_with u h g soup x log q c w k m new p b v (inl e) = rw (e.0, e.1, e.2) new
votes_with u h g soup x log q c w k m new p b v (inr d) = votes_kept u h g soup x log k m p b v d

-- the state after a vote at the open position
vote_accepted : {V : Type 0} (F : List (Fact V)) (log : LogState V) (p : ℕ) (b : Ballot) (v : V)
    → log.learned ≡ learned_in F → p ≡ open_at log → Some (b, v) ≡ accepted_in (opening F) (Voted p b v ∷ F)
vote_accepted F log p b v el e = sym (cond-true (p == opening F) (Some (b, v)) (accepted_in (opening F) F) (eq-eqb p (opening F) (e ∙ ap length el)))

offers_ok : {V : Type 0} (u : ℕ) (h : ℕ → List (Fact V)) (soup : List (Packet V)) (x : ℕ) (log : LogState V)
    (l : Leader V) (own : Option V) (v : V) → Known u h soup x log → LeaderOk u h (h x) x log l
    → u < count_below (2 * u + 1) (has l.promisers) → is_at l.last (open_at log) ≡ false
    → to_offer (open_at log) l own ≡ Some v → TurnOk u h soup x (offers u x log l (Some v))
offers_ok {V} u h soup x log l own v k lo many idle e = record { orderly = (ap length k.state.learned, le, low, o, small); rest = after }
  where
    small : l.ballot.node < 256
    small = omega (arith, lo.mine, k.inside, k.few)

    F : List (Fact V)
    F = h x

    f : ℕ
    f = open_at log

    b : Ballot
    b = l.ballot

    o : Orderly F
    o = k.history.orderly x k.inside

    same_top : b ≡ promised_in F
    same_top = lo.is_promised ∙ k.state.promised

    le : key (promised_in F) ≤ key b
    le = omega (arith, ap key same_top)

    free : has_ballot b log.accepted ≡ false
    free = false_from_ne_true (has_ballot b log.accepted) (λ t. let r : is_at l.last f ≡ true = lo.own t in cc (idle))

    low : limit (accepted_in f F) ≤ key b
    low = rw (ap length k.state.learned, ← k.state.accepted) (low_accepted F b (opening F) log.accepted o small le (accepted_vote u h soup x log k) free)

    led_at_le : l.led_at ≤ f
    led_at_le = omega (arith, (promises_below F b l.led_at o lo.led).0, ap length k.state.learned)

    safe : IsSafe u h f b v
    safe = offer_safe u h F x log l own v lo many led_at_le e

    after : (g : ℕ → List (Fact V)) → g x ≡ Voted f b v ∷ F → AllGrew h g → Rest u g (Voted f b v ∷ F) soup x (offers u x log l (Some v))
    after g same m = record {
      votes = votes_with u h g soup x log f b v k m new;
      learned = k.history.learned x k.inside;
      sends = every-append (SendOk u g soup x) (to_each (2 * u + 1) (is x) (Accept b f v)) (to_each (2 * u + 1) nobody (Accepted b f v))
          (every-to_each (SendOk u g soup x) (2 * u + 1) (is x) (Accept b f v) (λ y. (new.owner_in, new.owner, sym lo.mine)))
          (every-to_each (SendOk u g soup x) (2 * u + 1) nobody (Accepted b f v) (λ y. (k.inside, mine)));
      state = record {
        promised = k.state.promised ∙ sym same_top ∙ sym (top_is F b o small le);
        accepted = vote_accepted F log f b v k.state.learned refl;
        learned = k.state.learned;
        seen = k.state.seen;
        leader = record {
          is_promised = lo.is_promised;
          mine = lo.mine;
          led = lo.led;
          joined = λ a la q. report-grew (h a) (g a) b l.led_at l.best (m.at a) (lo.joined a la q);
          backed = backed-grew u h g b l.led_at l.best m lo.backed;
          own = λ q. eq-eqb f f refl;
        };
      };
    }
      where
        mine : DidVote (g x) f b v
        mine = rw same (inl (refl, refl, refl))

        new : VoteOk u g f b v
        new = record { owner_in = rw lo.mine k.inside; owner = subst (λ y. DidVote (g y) f b v) (sym lo.mine) mine; safe = safe-grew u h g f b v m safe }

offers_any : {V : Type 0} (u : ℕ) (h : ℕ → List (Fact V)) (soup : List (Packet V)) (x : ℕ) (log : LogState V)
    (l : Leader V) (own : Option V) (w : Option V) → Known u h soup x log → LeaderOk u h (h x) x log l
    → u < count_below (2 * u + 1) (has l.promisers) → is_at l.last (open_at log) ≡ false
    → to_offer (open_at log) l own ≡ w → TurnOk u h soup x (offers u x log l w)
offers_any u h soup x log l own None k lo many idle e = stays_ok u h soup x log k
offers_any u h soup x log l own (Some v) k lo many idle e = offers_ok u h soup x log l own v k lo many idle e

pub offer_ok : {V : Type 0} (u : ℕ) (h : ℕ → List (Fact V)) (soup : List (Packet V)) (x : ℕ) (log : LogState V)
    (o : Option (Leader V)) (own : Option V) → Known u h soup x log
    → IfSome o (λ l. LeaderOk u h (h x) x log l) → TurnOk u h soup x (offer_as u x log o own)
offer_ok u h soup x log None own k lo = stays_ok u h soup x log k
offer_ok u h soup x log (Some l) own k lo =
    cond_both (nat_le (promised_by u l) u) _ _ (TurnOk u h soup x) (λ e. stays_ok u h soup x log k)
    (λ a. cond_both (open_at log == POSITIONS) _ _ (TurnOk u h soup x) (λ e. stays_ok u h soup x log k)
    (λ b. cond_both (is_at l.last (open_at log)) _ _ (TurnOk u h soup x) (λ e. stays_ok u h soup x log k)
    (λ c. offers_any u h soup x log l own (to_offer (open_at log) l own) k lo (leb-false _ _ a) c refl)))

-- ACCEPT

again_ok : {V : Type 0} (u : ℕ) (h : ℕ → List (Fact V)) (soup : List (Packet V)) (x : ℕ) (b : Ballot) (p : ℕ)
    (a : Option (Ballot × V)) → u < 128 → x < 2 * u + 1 → b.node < 2 * u + 1 → History u h soup
    → IfSome a (λ c. DidVote (h x) p c.0 c.1) → has_ballot b a ≡ true → (g : ℕ → List (Fact V)) → AllGrew h g → Every (SendOk u g soup x) (says_again u b p a)
again_ok u h soup x b p None few lx lb k d e g m = tt
again_ok {V} u h soup x b p (Some a) few lx lb k d e g m = every-to_each (SendOk u g soup x) (2 * u + 1) nobody
    (Accepted b p a.1) (λ y. (lx, (m.at x).votes p b a.1 (subst (λ c. DidVote (h x) p c a.1) same d)))
  where
    same : a.0 ≡ b
    same = same_true a.0 b e

accepts_ok : {V : Type 0} (u : ℕ) (h : ℕ → List (Fact V)) (soup : List (Packet V)) (x : ℕ) (log : LogState V) (s : ℕ)
    (b : Ballot) (p : ℕ) (v : V) → Known u h soup x log → MsgOk u h soup s (Accept b p v)
    → p ≡ open_at log → key log.promised ≤ key b → has_ballot b log.accepted ≡ false → TurnOk u h soup x (accepts u log b p v)
accepts_ok {V} u h soup x log s b p v k c at le free = record { orderly = (here, le', low, o, small); rest = after }
  where
    small : b.node < 256
    small = omega (arith, c.0, k.few)

    F : List (Fact V)
    F = h x

    o : Orderly F
    o = k.history.orderly x k.inside

    here : p ≡ opening F
    here = at ∙ ap length k.state.learned

    le' : key (promised_in F) ≤ key b
    le' = rw (← k.state.promised) le

    low : limit (accepted_in p F) ≤ key b
    low = rw (here, ← k.state.accepted) (low_accepted F b (opening F) log.accepted o small le' (accepted_vote u h soup x log k) free)

    -- its own ballot it would have voted with when it offered
    not_mine : b.node ≡ x → ⊥
    not_mine e = omega (arith, low, vote_is_low F p b v o (subst (λ y. DidVote (h y) p b v) e c.1))

    leader : (g : ℕ → List (Fact V)) → AllGrew h g → (l : Option (Leader V)) → IfSome l (λ l. LeaderOk u h F x log l)
        → IfSome (kept_leader b l) (λ l. LeaderOk u g (Voted p b v ∷ F) x (accepts u log b p v).state l)
    leader g m None lo = tt
    leader g m (Some l) lo = cond_both (same_ballot l.ballot b) (Some l) None
        (λ q. IfSome q (λ l. LeaderOk u g (Voted p b v ∷ F) x (accepts u log b p v).state l))
        (λ e. absurd (not_mine (ap (λ d. d.node) (sym (same_true l.ballot b e)) ∙ lo.mine)))
        (λ e. tt)

    after : (g : ℕ → List (Fact V)) → g x ≡ Voted p b v ∷ F → AllGrew h g → Rest u g (Voted p b v ∷ F) soup x (accepts u log b p v)
    after g same m = record {
      votes = votes_with u h g soup x log p b v k m (vote-grew u h g p b v m (k.history.votes b.node c.0 p b v c.1));
      learned = k.history.learned x k.inside;
      sends = every-to_each (SendOk u g soup x) (2 * u + 1) nobody (Accepted b p v) (λ y. (k.inside, rw same (inl (refl, refl, refl))));
      state = record {
        promised = sym (top_is F b o small le');
        accepted = vote_accepted F log p b v k.state.learned at;
        learned = k.state.learned;
        seen = k.state.seen;
        leader = leader g m log.leader k.state.leader;
      };
    }

pub on_accept_ok : {V : Type 0} (u : ℕ) (h : ℕ → List (Fact V)) (soup : List (Packet V)) (x : ℕ) (log : LogState V)
    (s : ℕ) (b : Ballot) (p : ℕ) (v : V) → Known u h soup x log → MsgOk u h soup s (Accept b p v)
    → TurnOk u h soup x (on_accept u log s b p v)
on_accept_ok {V} u h soup x log s b p v k c =
    cond_both (nat_lt p (open_at log)) _ _ (TurnOk u h soup x) (λ e. tell_ok u h soup x log s p k)
    (λ low. cond_both (nat_lt (open_at log) p) _ _ (TurnOk u h soup x) (λ e. still u h soup x log log _ None k k.state (λ g same m. (tt, tt)))
    (λ high. cond_both (is_below b log.promised) _ _ (TurnOk u h soup x) (λ e. idle_ok u h soup x log (Stale _) k)
    (λ le. cond_both (has_ballot b log.accepted) _ _ (TurnOk u h soup x)
    (λ e. still u h soup x log log _ None k k.state
    (λ g same m. again_ok u h soup x b p log.accepted k.few k.inside c.0 k.history
    (rw (between p (open_at log) low high ∙ ap length k.state.learned) (accepted_vote u h soup x log k)) e g m))
    (λ e. accepts_ok u h soup x log s b p v k c (between p (open_at log) low high) (not_below_key b log.promised (promised_small u h soup x log k) le) e))))

-- LEARNING

learned_ok : {V : Type 0} (u : ℕ) (h : ℕ → List (Fact V)) (soup : List (Packet V)) (x : ℕ) (log : LogState V) (p : ℕ)
    (v : V) (ks : List (ℕ × PaxMsg V)) → Known u h soup x log → p ≡ open_at log → Meets u soup p v
    → ((g : ℕ → List (Fact V)) → Every (SendOk u g soup x) ks) → TurnOk u h soup x (learned_turn log p v ks)
learned_ok {V} u h soup x log p v ks k at meets sends = record { orderly = (here, o); rest = after }
  where
    F : List (Fact V)
    F = h x

    o : Orderly F
    o = k.history.orderly x k.inside

    here : p ≡ opening F
    here = at ∙ ap length k.state.learned

    leader : (g : ℕ → List (Fact V)) → AllGrew h g → (l : Option (Leader V)) → IfSome l (λ l. LeaderOk u h F x log l)
        → IfSome l (λ l. LeaderOk u g (Learned p v ∷ F) x (learns log v) l)
    leader g m None lo = tt
    leader g m (Some l) lo = record {
      is_promised = lo.is_promised;
      mine = lo.mine;
      led = lo.led;
      joined = λ a la q. report-grew (h a) (g a) l.ballot l.led_at l.best (m.at a) (lo.joined a la q);
      backed = backed-grew u h g l.ballot l.led_at l.best m lo.backed;
      own = λ q. absurd (cc);
    }

    all : (q : ℕ) (w : V) → slice_get (learned_in F ++ v ∷ []) q ≡ Some w → Meets u soup q w
    all q w e = go (get_push (learned_in F) v q w e)
      where
        go : (slice_get (learned_in F) q ≡ Some w) ⊎ ((q ≡ length (learned_in F)) × (v ≡ w)) → Meets u soup q w
        go (inl f) = k.history.learned x k.inside q w f
        go (inr f) = rw (f.0, ← here, ← f.1) meets

    after : (g : ℕ → List (Fact V)) → g x ≡ Learned p v ∷ F → AllGrew h g → Rest u g (Learned p v ∷ F) soup x (learned_turn log p v ks)
    after g same m = record {
      votes = votes_kept u h g soup x log k m;
      learned = all;
      sends = sends g;
      state = record {
        promised = k.state.promised;
        accepted = sym (none_past F (length (learned_in F ++ v ∷ [])) o (omega (arith, length_push (learned_in F) v)));
        learned = ap (λ xs. xs ++ v ∷ []) k.state.learned;
        seen = λ y b e. absurd (nothing_seen (length log.seen) y b e);
        leader = leader g m log.leader k.state.leader;
      };
    }

pub on_learn_ok : {V : Type 0} (u : ℕ) (h : ℕ → List (Fact V)) (soup : List (Packet V)) (x : ℕ) (log : LogState V)
    (s p : ℕ) (v : V) → Known u h soup x log → MsgOk u h soup s (Learn p v) → TurnOk u h soup x (on_learn log s p v)
on_learn_ok u h soup x log s p v k c =
    cond_both (nat_lt p (open_at log)) _ _ (TurnOk u h soup x) (λ e. idle_ok u h soup x log Nothing k)
    (λ a. cond_both (nat_lt (open_at log) p) _ _ (TurnOk u h soup x) (λ e. idle_ok u h soup x log (IsBehind _) k)
    (λ b. learned_ok u h soup x log p v _ k (between p (open_at log) a b) c (λ g. (tt, tt))))

pub on_ask_ok : {V : Type 0} (u : ℕ) (h : ℕ → List (Fact V)) (soup : List (Packet V)) (x : ℕ) (log : LogState V)
    (s p : ℕ) → Known u h soup x log → TurnOk u h soup x (on_ask log s p)
on_ask_ok u h soup x log s p k = cond_both (nat_lt p (open_at log)) _ _ (TurnOk u h soup x)
    (λ e. tell_ok u h soup x log s p k) (λ e. idle_ok u h soup x log Nothing k)

-- NOTING

says_self : {V : Type 0} (p : ℕ) (b : Ballot) (x : ℕ) (v : V) → is_vote p b x (Accepted b p v) x ≡ true
says_self p b x v = and_from _ _ (eq-eqb x x refl) (and_from _ _ (eq-eqb p p refl) (same_refl b))

skip_one : (t a : Bool) → a ≡ true → cond t true a ≡ true
skip_one true a e = refl
skip_one false a e = e

pub has_sent_at : {V : Type 0} (ks : List (Packet V)) (place : ℕ) (k : Packet V) (p : ℕ) (b : Ballot) (v : V)
    → slice_get ks place ≡ Some k → k.msg ≡ Accepted b p v → has_sent ks p b k.from ≡ true
has_sent_at [] place k p b v e m = absurd (cc)
has_sent_at (j ∷ ks) zero k p b v e m =
    let same : j ≡ k = cc in
    cond-true (is_vote p b k.from j.msg j.from) true (has_sent ks p b k.from) (rw (same, m) (says_self p b k.from v))
has_sent_at (j ∷ ks) (suc i) k p b v e m = skip_one (is_vote p b k.from j.msg j.from) (has_sent ks p b k.from) (has_sent_at ks i k p b v e m)

on_accepted_ok : {V : Type 0} (u : ℕ) (h : ℕ → List (Fact V)) (soup : List (Packet V)) (x : ℕ) (log : LogState V)
    (place : ℕ) (j : Packet V) (b : Ballot) (p : ℕ) (v : V) → Known u h soup x log
    → slice_get soup place ≡ Some j → j.msg ≡ Accepted b p v → MsgOk u h soup j.from (Accepted b p v) → TurnOk u h soup x (on_accepted u log j.from b p v)
on_accepted_ok {V} u h soup x log place j b p v k is_at_place is_msg c =
    cond_both (nat_lt p (open_at log)) _ _ (TurnOk u h soup x) (λ e. idle_ok u h soup x log Nothing k)
    (λ low. cond_both (nat_lt (open_at log) p) _ _ (TurnOk u h soup x) (λ e. idle_ok u h soup x log (IsBehind _) k)
    (λ high. cond_both (is_from b (seen_at log.seen j.from)) _ _ (TurnOk u h soup x) (λ e. idle_ok u h soup x log Nothing k)
    (λ new. cond_both (nat_lt u (count_below (2 * u + 1) (with_ballot log.seen j.from b))) _ _ (TurnOk u h soup x)
    (λ e. learned_ok u h soup x log p v [] k (between p (open_at log) low high) (meets (between p (open_at log) low high) (ltb-true _ _ e)) (λ g. tt))
    (λ e. still u h soup x log (notes log j.from b).state [] None k
    (record {
      promised = k.state.promised;
      accepted = k.state.accepted;
      learned = k.state.learned;
      leader = later log.leader k.state.leader;
      seen = λ y d q. seen_sent y d (between p (open_at log) low high) (set_cases log.seen j.from (Some b) None (Some d) y q);
    })
    (λ g same m. tt)))))
  where
    sent : has_sent soup p b j.from ≡ true
    sent = has_sent_at soup place j p b v is_at_place is_msg

    seen_sent : (y : ℕ) (d : Ballot) → p ≡ open_at log → ((y ≡ j.from) × (Some b ≡ Some d))
        ⊎ (seen_at log.seen y ≡ Some d) → has_sent soup (open_at log) d y ≡ true
    seen_sent y d at (inl e) = let f : b ≡ d = cc in rw (← at, ← f, e.0) sent
    seen_sent y d at (inr q) = k.state.seen y d q

    later : (o : Option (Leader V)) → IfSome o (λ l. LeaderOk u h (h x) x log l) → IfSome o (λ l. LeaderOk u h (h x) x (notes log j.from b).state l)
    later None lo = tt
    later (Some l) lo = record { is_promised = lo.is_promised; mine = lo.mine; led = lo.led; joined = lo.joined; backed = lo.backed; own = lo.own }

    -- who is seen with this ballot has sent it
    counted : p ≡ open_at log → (y : ℕ) → with_ballot log.seen j.from b y ≡ true → has_sent soup p b y ≡ true
    counted at y q = by (seen_at (noted log.seen j.from b) y) refl q
      where
        known : (o : Option Ballot) → seen_at log.seen y ≡ o → is_ballot b o ≡ true → has_sent soup p b y ≡ true
        known None e q = absurd (cc)
        known (Some d) e q = subst (λ c. has_sent soup p c y ≡ true) (same_true d b q) (rw at (k.state.seen y d e))

        by : (o : Option Ballot) → seen_at (noted log.seen j.from b) y ≡ o → is_ballot b o ≡ true → has_sent soup p b y ≡ true
        by o e q = either (set_cases log.seen j.from (Some b) None o y e)
          where
            either : ((y ≡ j.from) × (Some b ≡ o)) ⊎ (seen_at log.seen y ≡ o) → has_sent soup p b y ≡ true
            either (inl f) = rw f.0 sent
            either (inr f) = known o f q

    meets : p ≡ open_at log → u < count_below (2 * u + 1) (with_ballot log.seen j.from b) → Meets u soup p v
    meets at many = record {
      ballot = b;
      place = place;
      packet = j;
      is_sent = is_at_place;
      is_accepted = is_msg;
      is_reached_by = lt-ltb _ _ (omega (arith, many, count-more (2 * u + 1) (with_ballot log.seen j.from b) (has_sent soup p b) (counted at)));
    }

pub on_msg_ok : {V : Type 0} (u : ℕ) (h : ℕ → List (Fact V)) (soup : List (Packet V)) (x : ℕ) (log : LogState V)
    (place : ℕ) (j : Packet V) (m : PaxMsg V) → Known u h soup x log → slice_get soup place ≡ Some j → j.msg ≡ m
    → MsgOk u h soup j.from m
    → TurnOk u h soup x (on_msg u log j.from m)
on_msg_ok u h soup x log place j (Prepare b p) k at is c = on_prepare_ok u h soup x log j.from b p k c
on_msg_ok u h soup x log place j (Promise b p a) k at is c = on_promise_ok u h soup x log log.leader j.from b p a k k.state.leader c
on_msg_ok u h soup x log place j (Accept b p v) k at is c = on_accept_ok u h soup x log j.from b p v k c
on_msg_ok u h soup x log place j (Accepted b p v) k at is c = on_accepted_ok u h soup x log place j b p v k at is c
on_msg_ok u h soup x log place j (Learn p v) k at is c = on_learn_ok u h soup x log j.from p v k c
on_msg_ok u h soup x log place j (Ask p) k at is c = on_ask_ok u h soup x log j.from p k
on_msg_ok u h soup x log place j (Behind p) k at is c = on_ask_ok u h soup x log j.from p k
