-- Each row of the table is right by itself.
use Rattle.std.proofs.Common.{◌≡◌, ℕ, ◌+◌, ◌*◌, ◌<◌, ◌≤◌, Bool, true, false, cond, List, [], ◌∷◌, length, refl, sym, ap}
use Rattle.std.proofs.Common.{◌∙◌, subst, inl, inr, arith, Option, Some, None, suc}
use Rattle.std.specs.Prelude.{slice_get, slice_set, nat_lt, ◌==◌, ◌&&◌, not, ◌⊎◌, IfSome, if◌then◌else◌}
use Rattle.std.proofs.lemmas.Bool.{cond_both, eq-eqb, eqb-true, eqb-false, ltb-false, and_parts}
use Rattle.aeg_base.specs.Ballots.{same_ballot, is_at_most}
use Rattle.aeg_base.specs.declared.names.Ballot.{Ballot}
use Rattle.log_model.specs.declared.fact.Fact.{Fact}
use Rattle.log_model.specs.declared.fact.Fact.TheVariants.{Promised}
use Rattle.log_model.specs.declared.message.PaxMsg.{PaxMsg}
use Rattle.log_model.specs.declared.message.PaxMsg.TheVariants.{Prepare, Promise}
use Rattle.log_model.specs.declared.turn.LogIdle.{LogIdle}
use Rattle.log_model.specs.declared.turn.LogIdle.TheVariants.{BallotSpent, Stale, Nothing}
use Rattle.log_model.specs.Log.{Leader, LogState, open_at, idles, stays, has, count_below, is, is_none, is_better, has_ballot}
use Rattle.log_model.specs.Rows.{tells, tell, next_ballot, leads, lead, reports, promises, on_prepare, join, joins, on_promise, value_or, to_offer}
use Rattle.log_model.specs.Recover.{promised_in, learned_in, accepted_in}
use Rattle.log_model.specs.World.{Packet}
use Rattle.log_model.specs.Chosen.{Meets}
use Rattle.log_model.proofs.Ballots.{key, limit, same_true, same_false, key_same, below_key, not_below_key, not_at_most_key}
use Rattle.log_model.proofs.Basics.{set_cases, alone, Every, every-to_each}
use Rattle.log_model.proofs.History.{opening, DidVote, DidPromise, Orderly, top_is, vote_is_small, votes_below}
use Rattle.log_model.proofs.History.{vote_is_low, accepted_voted, one_promise, small_node}
use Rattle.log_model.proofs.Invariant.{VoteOk, IsSafe, IsReport, IsBacked, MsgOk, SendOk, LeaderOk, StateOk, History, AllGrew, soup-refl, vote-grew, state-grew}
use Rattle.log_model.proofs.Invariant.{Rest, TurnOk}

-- what is known where x is up with the state log
pub record Known {V : Type 0} (u : ℕ) (h : ℕ → List (Fact V)) (soup : List (Packet V)) (x : ℕ) (log : LogState V) : Type 0 where
  pub few : u < 128
  pub inside : x < 2 * u + 1
  pub history : History u h soup
  pub state : StateOk u h (h x) soup x log

-- its promised ballot fits
pub promised_small : {V : Type 0} (u : ℕ) (h : ℕ → List (Fact V)) (soup : List (Packet V)) (x : ℕ) (log : LogState V)
    → Known u h soup x log → log.promised.node < 256
promised_small u h soup x log k = rw k.state.promised (small_node (h x) (k.history.orderly x k.inside))

-- what it voted for is still right when more was written
pub votes_kept : {V : Type 0} (u : ℕ) (h g : ℕ → List (Fact V)) (soup : List (Packet V)) (x : ℕ) (log : LogState V)
    → Known u h soup x log → AllGrew h g → (p : ℕ) (b : Ballot) (v : V) → DidVote (h x) p b v → VoteOk u g p b v
votes_kept u h g soup x log k m p b v d = vote-grew u h g p b v m (k.history.votes x k.inside p b v d)

-- a row that writes nothing
pub still : {V : Type 0} (u : ℕ) (h : ℕ → List (Fact V)) (soup : List (Packet V)) (x : ℕ) (log next : LogState V)
    (sends : List (ℕ × PaxMsg V)) (why : Option LogIdle) → Known u h soup x log → StateOk u h (h x) soup x next
    → ((g : ℕ → List (Fact V)) → g x ≡ h x → AllGrew h g → Every (SendOk u g soup x) sends)
    → TurnOk u h soup x (record { state = next; facts = []; sends = sends; learned = None; idle = why })
still u h soup x log next sends why k s e = record {
  orderly = k.history.orderly x k.inside;
  rest = λ g same m. record {
    votes = votes_kept u h g soup x log k m;
    learned = k.history.learned x k.inside;
    sends = e g same m;
    state = state-grew u h g (h x) soup soup x next m (soup-refl u soup) s;
  };
}

pub idle_ok : {V : Type 0} (u : ℕ) (h : ℕ → List (Fact V)) (soup : List (Packet V)) (x : ℕ) (log : LogState V)
    (why : LogIdle) → Known u h soup x log → TurnOk u h soup x (idles log why)
idle_ok u h soup x log why k = still u h soup x log log [] (Some why) k k.state (λ g same m. tt)

pub stays_ok : {V : Type 0} (u : ℕ) (h : ℕ → List (Fact V)) (soup : List (Packet V)) (x : ℕ) (log : LogState V)
    → Known u h soup x log → TurnOk u h soup x (stays log)
stays_ok u h soup x log k = still u h soup x log log [] None k k.state (λ g same m. tt)

pub tells_ok : {V : Type 0} (u : ℕ) (g : ℕ → List (Fact V)) (soup : List (Packet V)) (x s p : ℕ) (o : Option V)
    → ((v : V) → o ≡ Some v → Meets u soup p v) → Every (SendOk u g soup x) (tells s p o)
tells_ok u g soup x s p None f = tt
tells_ok u g soup x s p (Some v) f = (f v refl, tt)

pub tell_ok : {V : Type 0} (u : ℕ) (h : ℕ → List (Fact V)) (soup : List (Packet V)) (x : ℕ) (log : LogState V) (s p : ℕ)
    → Known u h soup x log → TurnOk u h soup x (tell log s p)
tell_ok u h soup x log s p k = still u h soup x log log (tells s p (slice_get log.learned p)) None k k.state
    (λ g same m. tells_ok u g soup x s p (slice_get log.learned p) (λ v e. k.history.learned x k.inside p v (rw (← k.state.learned) e)))

-- PROMISES

-- after the promise of b: what is accepted is the report at the open position, and none is the report past it
own_report : {V : Type 0} (F : List (Fact V)) (b : Ballot) → Orderly F → b.node < 256 → key (promised_in F) < key b
    → IsReport (Promised b ∷ F) b (opening F) (accepted_in (opening F) F)
own_report F b o n l = record {
  top = rw (top_is F b o n (omega arith)) (omega arith);
  votes = λ q d w le v lt.
      let r = votes_below F q d w o v in
      let e : q ≡ opening F = omega (arith, r.0) in
      (e, vote_is_low F (opening F) d w o (rw (← e) v));
}

past_report : {V : Type 0} (F : List (Fact V)) (b : Ballot) (p : ℕ) → Orderly F → b.node < 256
    → key (promised_in F) < key b → opening F < p → IsReport (Promised b ∷ F) b p None
past_report F b p o n l past = record {
  top = rw (top_is F b o n (omega arith)) (omega arith);
  votes = λ q d w le v lt. absurd (omega (arith, (votes_below F q d w o v).0));
}

own_backed : {V : Type 0} (u : ℕ) (g : ℕ → List (Fact V)) (F : List (Fact V)) (x : ℕ) (b : Ballot) (p : ℕ) (a : Option (Ballot × V)) → Orderly F → x < 2 * u + 1
    → ((q : ℕ) (c : Ballot) (v : V) → DidVote F q c v → DidVote (g x) q c v) → key (promised_in F) < key b
    → IfSome a (λ c. DidVote F p c.0 c.1) → IsBacked u g b p a
own_backed u g F x b p None o lx keeps l d = tt
own_backed u g F x b p (Some a) o lx keeps l d = (omega (arith, (votes_below F p a.0 a.1 o d).1), (x, lx, keeps p a.0 a.1 d))

no_own : {V : Type 0} (F : List (Fact V)) (b : Ballot) (p : ℕ) (a : Option (Ballot × V)) → Orderly F
    → key (promised_in F) < key b → IfSome a (λ c. DidVote F p c.0 c.1) → has_ballot b a ≡ true → ⊥
no_own F b p None o l d e = cc
no_own F b p (Some a) o l d e = let q : a.0 ≡ b = same_true a.0 b e in omega (arith, (votes_below F p a.0 a.1 o d).1, ap key q)

next_above : {V : Type 0} (F : List (Fact V)) (x : ℕ) (log : LogState V) → log.promised ≡ promised_in F → Orderly F
    → key (promised_in F) < key (next_ballot x log)
next_above F x log e o =
    let c : log.promised.counter ≡ (promised_in F).counter = ap (λ b. b.counter) e in
    let n : (promised_in F).node < 256 = small_node F o in
    omega arith

leads_ok : {V : Type 0} (u : ℕ) (h : ℕ → List (Fact V)) (soup : List (Packet V)) (x : ℕ) (log : LogState V)
    → Known u h soup x log → TurnOk u h soup x (leads u x log)
leads_ok {V} u h soup x log k = record { orderly = (above, o, small); rest = after }
  where
    small : x < 256
    small = omega (arith, k.inside, k.few)

    F : List (Fact V)
    F = h x

    o : Orderly F
    o = k.history.orderly x k.inside

    b : Ballot
    b = next_ballot x log

    above : key (promised_in F) < key b
    above = next_above F x log k.state.promised o

    accepted : IfSome log.accepted (λ c. DidVote F (opening F) c.0 c.1)
    accepted = rw k.state.accepted (accepted_voted F (opening F))

    after : (g : ℕ → List (Fact V)) → g x ≡ Promised b ∷ F → AllGrew h g → Rest u g (Promised b ∷ F) soup x (leads u x log)
    after g same m = record {
      votes = votes_kept u h g soup x log k m;
      learned = k.history.learned x k.inside;
      sends = every-to_each (SendOk u g soup x) (2 * u + 1) (is x) (Prepare b (open_at log))
          (λ y. (k.inside, rw same (inl (refl, ap length k.state.learned)), refl));
      state = record {
        promised = sym (top_is F b o small (omega (arith, above)));
        accepted = k.state.accepted;
        learned = k.state.learned;
        seen = k.state.seen;
        leader = record {
          is_promised = refl;
          mine = refl;
          led = inl (refl, ap length k.state.learned);
          joined = λ a la q. rw (alone (2 * u + 1) x a q, same, k.state.accepted, ap length k.state.learned) (own_report F b o small above);
          backed = rw (ap length k.state.learned) (own_backed u g F x b (opening F) log.accepted o k.inside (λ q c v d. rw same d) above accepted);
          own = λ q. absurd (no_own F b (opening F) log.accepted o above accepted q);
        };
      };
    }

pub lead_ok : {V : Type 0} (u : ℕ) (h : ℕ → List (Fact V)) (soup : List (Packet V)) (x : ℕ) (log : LogState V)
    → Known u h soup x log → TurnOk u h soup x (lead u x log)
lead_ok {V} u h soup x log k = cond_both _ _ _ (TurnOk u h soup x) (λ e. idle_ok u h soup x log BallotSpent k) (λ e. leads_ok u h soup x log k)

-- what a promise at p ≥ f reports
reports_ok : {V : Type 0} (F : List (Fact V)) (log : LogState V) (b : Ballot) (p : ℕ) → Orderly F → b.node < 256
    → log.accepted ≡ accepted_in (opening F) F → log.learned ≡ learned_in F
    → key (promised_in F) < key b → opening F ≤ p → IsReport (Promised b ∷ F) b p (reports log p) × IfSome (reports log p) (λ c. DidVote F p c.0 c.1)
reports_ok {V} F log b p o n ea el l le = cond_both (open_at log == p) log.accepted None
    (λ a. IsReport (Promised b ∷ F) b p a × IfSome a (λ c. DidVote F p c.0 c.1))
    (λ e. let q : opening F ≡ p = ap length (sym el) ∙ eqb-true _ _ e in
    (rw (ea, ← q) (own_report F b o n l), rw (ea, ← q) (accepted_voted F (opening F))))
    (λ e. (
      past_report F b p o n l (let ne : length log.learned ≡ p
          → ⊥ = eqb-false (length log.learned) p e in let m : length log.learned ≡ opening F = ap length el in omega arith),
      tt,
    ))

promises_ok : {V : Type 0} (u : ℕ) (h : ℕ → List (Fact V)) (soup : List (Packet V)) (x : ℕ) (log : LogState V) (s : ℕ)
    (b : Ballot) (p : ℕ) → Known u h soup x log → MsgOk u h soup s (Prepare b p)
    → open_at log ≤ p → key log.promised < key b → TurnOk u h soup x (promises log s b p)
promises_ok {V} u h soup x log s b p k c le lt = record { orderly = (above, o, small); rest = after }
  where
    small : b.node < 256
    small = omega (arith, c.0, k.few)

    F : List (Fact V)
    F = h x

    o : Orderly F
    o = k.history.orderly x k.inside

    above : key (promised_in F) < key b
    above = rw (← k.state.promised) lt

    r : IsReport (Promised b ∷ F) b p (reports log p) × IfSome (reports log p) (λ c. DidVote F p c.0 c.1)
    r = reports_ok F log b p o small k.state.accepted k.state.learned above (omega (arith, le, ap length k.state.learned))

    after : (g : ℕ → List (Fact V)) → g x ≡ Promised b ∷ F → AllGrew h g → Rest u g (Promised b ∷ F) soup x (promises log s b p)
    after g same m = record {
      votes = votes_kept u h g soup x log k m;
      learned = k.history.learned x k.inside;
      sends = (
        record {
          owner_in = c.0;
          led = (m.at b.node).promises b p c.1;
          report = rw same r.0;
          backed = own_backed u g F x b p (reports log p) o k.inside (λ q c v d. rw same d) above r.1;
        },
        tt,
      );
      state = record {
        promised = sym (top_is F b o small (omega (arith, above)));
        accepted = k.state.accepted;
        learned = k.state.learned;
        seen = k.state.seen;
        leader = tt;
      };
    }

pub on_prepare_ok : {V : Type 0} (u : ℕ) (h : ℕ → List (Fact V)) (soup : List (Packet V)) (x : ℕ) (log : LogState V)
    (s : ℕ) (b : Ballot) (p : ℕ) → Known u h soup x log → MsgOk u h soup s (Prepare b p)
    → TurnOk u h soup x (on_prepare log s b p)
on_prepare_ok u h soup x log s b p k c = cond_both (nat_lt p (open_at log)) _ _ (TurnOk u h soup x) (λ e. tell_ok u h soup x log s p k)
    (λ e. cond_both (is_at_most b log.promised) _ _ (TurnOk u h soup x) (λ f. idle_ok u h soup x log (Stale log.promised) k)
    (λ f. promises_ok u h soup x log s b p k c (ltb-false _ _ e) (not_at_most_key b log.promised (promised_small u h soup x log k) f)))

-- JOINING

report_weaker : {V : Type 0} (F : List (Fact V)) (b : Ballot) (p : ℕ) (a c : Option (Ballot × V)) → limit a ≤ limit c → IsReport F b p a → IsReport F b p c
report_weaker F b p a c le r = record { top = r.top; votes = λ q d w l v t. ((r.votes q d w l v t).0, omega (arith, (r.votes q d w l v t).1)) }

abbrev better : {V : Type 0} → Bool → Option (Ballot × V) → Option (Ballot × V) → Option (Ballot × V)
better at a best = if (at && is_better a best) then a else best

-- the node of the ballot, if there is one, fits
abbrev IsSmall : {V : Type 0} → Option (Ballot × V) → Type 0
IsSmall None = Unit {0}
IsSmall (Some a) = a.0.node < 256

better_yes : {V : Type 0} (a best : Option (Ballot × V)) → IsSmall best → is_better a best ≡ true → limit best ≤ limit a
better_yes None best s e = absurd (cc)
better_yes (Some a) None s e = omega arith
better_yes (Some a) (Some b) s e = let l : key b.0 < key a.0 = below_key b.0 a.0 s e in omega arith

better_no : {V : Type 0} (a best : Option (Ballot × V)) → IsSmall a → is_better a best ≡ false → limit a ≤ limit best
better_no None best s e = omega arith
better_no (Some a) None s e = absurd (cc)
better_no (Some a) (Some b) s e = let l : key a.0 ≤ key b.0 = not_below_key b.0 a.0 s e in omega arith

better_ok : {V : Type 0} (a best : Option (Ballot × V)) → IsSmall a → IsSmall best
    → (limit a ≤ limit (better true a best)) × (limit best ≤ limit (better true a best))
better_ok a best s t = cond_both (is_better a best) a best (λ c. (limit a ≤ limit c) × (limit best ≤ limit c))
    (λ e. (omega arith, better_yes a best t e)) (λ e. (better_no a best s e, omega arith))

-- a reported vote has an owner in the tier
backed_small : {V : Type 0} (u : ℕ) (h : ℕ → List (Fact V)) (soup : List (Packet V)) (b : Ballot) (p : ℕ)
    (a : Option (Ballot × V)) → u < 128 → History u h soup → IsBacked u h b p a → IsSmall a
backed_small u h soup b p None few k c = tt
backed_small u h soup b p (Some a) few k c = let o : a.0.node < 2 * u + 1 = (k.votes c.1.0 c.1.1 p a.0 a.1 c.1.2).owner_in in omega arith

joins_ok : {V : Type 0} (u : ℕ) (h : ℕ → List (Fact V)) (soup : List (Packet V)) (x : ℕ) (log : LogState V)
    (l : Leader V) (s : ℕ) (b : Ballot) (p : ℕ) (a : Option (Ballot × V)) → Known u h soup x log
    → LeaderOk u h (h x) x log l → MsgOk u h soup s (Promise b p a) → l.ballot ≡ b → TurnOk u h soup x (joins log l s p a)
joins_ok {V} u h soup x log l s b p a k lo c e = still u h soup x log (joins log l s p a).state [] None k
    (record {
      promised = k.state.promised;
      accepted = k.state.accepted;
      learned = k.state.learned;
      seen = k.state.seen;
      leader = record { is_promised = lo.is_promised; mine = lo.mine; led = lo.led; own = lo.own; joined = each; backed = back };
    })
    (λ g same m. tt)
  where
    eb : b ≡ l.ballot
    eb = sym e

    fits : (limit a ≤ limit (better true a l.best)) × (limit l.best ≤ limit (better true a l.best))
    fits = better_ok a l.best (backed_small u h soup b p a k.few k.history c.backed) (backed_small u h soup l.ballot l.led_at l.best k.few k.history lo.backed)

    owner : b.node ≡ x
    owner = ap (λ d. d.node) eb ∙ lo.mine

    ep : p ≡ l.led_at
    ep = one_promise (h x) l.ballot p l.led_at (k.history.orderly x k.inside)
        (subst (λ d. DidPromise (h x) d p) eb (subst (λ y. DidPromise (h y) b p) owner c.led)) lo.led

    best : Option (Ballot × V)
    best = (join l s p a).best

    is_best : best ≡ better true a l.best
    is_best = ap (λ t. better t a l.best) (eq-eqb p l.led_at ep)

    theirs : IsReport (h s) l.ballot l.led_at a
    theirs = subst (λ q. IsReport (h s) l.ballot q a) ep (subst (λ d. IsReport (h s) d p a) eb c.report)

    each : (y : ℕ) → y < 2 * u + 1 → has (slice_set l.promisers s true) y ≡ true → IsReport (h y) l.ballot l.led_at best
    each y ly q = rw is_best (go (set_cases l.promisers s true false true y q))
      where
        go : ((y ≡ s) × (true ≡ true)) ⊎ (has l.promisers y ≡ true) → IsReport (h y) l.ballot l.led_at (better true a l.best)
        go (inl f) = report_weaker (h y) l.ballot l.led_at a (better true a l.best) fits.0 (rw f.0 theirs)
        go (inr q) = report_weaker (h y) l.ballot l.led_at l.best (better true a l.best) fits.1 (lo.joined y ly q)

    back : IsBacked u h l.ballot l.led_at best
    back = rw is_best (cond_both (is_better a l.best) a l.best (λ c. IsBacked u h l.ballot l.led_at c)
        (λ f. subst (λ q. IsBacked u h l.ballot q a) ep (subst (λ d. IsBacked u h d p a) eb c.backed)) (λ f. lo.backed))

pub on_promise_ok : {V : Type 0} (u : ℕ) (h : ℕ → List (Fact V)) (soup : List (Packet V)) (x : ℕ) (log : LogState V)
    (o : Option (Leader V)) (s : ℕ) (b : Ballot) (p : ℕ) (a : Option (Ballot × V)) → Known u h soup x log
    → IfSome o (λ l. LeaderOk u h (h x) x log l) → MsgOk u h soup s (Promise b p a) → TurnOk u h soup x (on_promise log o s b p a)
on_promise_ok u h soup x log None s b p a k lo c = idle_ok u h soup x log Nothing k
on_promise_ok u h soup x log (Some l) s b p a k lo c = cond_both (same_ballot l.ballot b && (is_none l.last && not (has l.promisers s))) _ _ (TurnOk u h soup x)
    (λ e. joins_ok u h soup x log l s b p a k lo c
    (same_true l.ballot b (and_parts (same_ballot l.ballot b) (is_none l.last && not (has l.promisers s)) e).0))
    (λ e. idle_ok u h soup x log Nothing k)

-- OFFERS

-- with a ballot that is promised and that nothing was accepted with, the last accepted one is lower
pub low_accepted : {V : Type 0} (F : List (Fact V)) (b : Ballot) (p : ℕ) (a : Option (Ballot × V)) → Orderly F
    → b.node < 256 → key (promised_in F) ≤ key b → IfSome a (λ c. DidVote F p c.0 c.1) → has_ballot b a ≡ false → limit a ≤ key b
low_accepted F b p None o small l d e = omega arith
low_accepted F b p (Some a) o small l d e =
    let r : key a.0 ≤ key (promised_in F) = (votes_below F p a.0 a.1 o d).1 in
    let n : key a.0 ≡ key b → ⊥ = λ q. same_false a.0 b e (key_same a.0 b (vote_is_small F p a.0 a.1 o d) small q) in
    omega arith

-- the value that a leader offers is safe
pub offer_safe : {V : Type 0} (u : ℕ) (h : ℕ → List (Fact V)) (F : List (Fact V)) (x : ℕ) (log : LogState V)
    (l : Leader V) (own : Option V) (v : V) → LeaderOk u h F x log l → u < count_below (2 * u + 1) (has l.promisers)
    → l.led_at ≤ open_at log → to_offer (open_at log) l own ≡ Some v → IsSafe u h (open_at log) l.ballot v
offer_safe {V} u h F x log l own v lo many le e = at_led_at (open_at log == l.led_at) refl e
  where
    f : ℕ
    f = open_at log

    above : (a : ℕ) → a < 2 * u + 1 → has l.promisers a ≡ true → key l.ballot ≤ key (promised_in (h a))
    above a la q = (lo.joined a la q).top

    none_below : (f ≡ l.led_at → limit l.best ≡ 0) → (a : ℕ) → a < 2 * u + 1 → has l.promisers a ≡ true
        → (d : Ballot) (w : V) → DidVote (h a) f d w → key d < key l.ballot → key d < 0
    none_below n a la q d w t k = let r = (lo.joined a la q).votes f d w le t k in omega (arith, r.1, n r.0)

    reported : (best : Option (Ballot × V)) → l.best ≡ best → IsBacked u h l.ballot l.led_at best → f ≡ l.led_at
        → value_or best own ≡ Some v → IsSafe u h f l.ballot v
    reported None eb back at e = record {
      quorum = has l.promisers;
      many = many;
      above = above;
      bound = 0;
      below = none_below (λ q. ap limit eb);
      origin = inl refl;
    }
    reported (Some a) eb back at e = record {
      quorum = has l.promisers;
      many = many;
      above = above;
      bound = suc (key a.0);
      below = λ y ly q d w t k. rw eb at ((lo.joined y ly q).votes f d w le t k).1;
      origin = inr (back.1.0, a.0, refl, back.0, back.1.1, rw (at, ← same_value) back.1.2);
    }
      where
        same_value : a.1 ≡ v
        same_value = cc

    at_led_at : (t : Bool) → (open_at log == l.led_at) ≡ t → cond t (value_or l.best own) own ≡ Some v → IsSafe u h f l.ballot v
    at_led_at true q e = reported l.best refl lo.backed (eqb-true _ _ q) e
    at_led_at false q e = record {
      quorum = has l.promisers;
      many = many;
      above = above;
      bound = 0;
      below = none_below (λ z. absurd (eqb-false f l.led_at q z));
      origin = inl refl;
    }
