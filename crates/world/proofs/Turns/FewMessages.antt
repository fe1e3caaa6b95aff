-- A turn of a log sends at most 4u+2 messages, and so a node's packets have room. It writes at most one fact.
use Rattle.std.proofs.Common.{◌≡◌, ℕ, ◌+◌, ◌*◌, ◌≤◌, refl, Bool, true, false, cond, List, [], ◌∷◌, length, arith, Option, Some, None, zero, suc}
use Rattle.std.specs.Prelude.{slice_get, nat_lt, nat_le, ◌==◌}
use Rattle.std.proofs.lemmas.Bool.{cond_both}
use Rattle.std.proofs.lemmas.List.{length-append, length-map}
use Rattle.aeg_base.specs.declared.limits.TheConstants.{POSITIONS}
use Rattle.aeg_base.specs.declared.names.Ballot.{Ballot}
use Rattle.aeg_base.specs.declared.names.Tier.{Tier}
use Rattle.log_model.specs.declared.fact.Fact.{Fact}
use Rattle.log_model.specs.declared.fact.Fact.TheVariants.{Promised, Accepted as Voted, Learned}
use Rattle.log_model.specs.declared.message.PaxMsg.{PaxMsg}
use Rattle.log_model.specs.declared.message.PaxMsg.TheVariants.{Prepare, Promise, Accept, Accepted, Ask, Learn, Behind}
use Rattle.log_model.specs.declared.turn.LogIdle.{LogIdle}
use Rattle.log_model.specs.declared.turn.LogIdle.TheVariants.{BallotSpent, Stale, Behind as IsBehind, Nothing}
use Rattle.log_model.specs.Log.{Leader, LogState, Turn, open_at, idles, stays, says, seen_at, count_below, to_each, nobody, is, is_at, is_from, with_ballot}
use Rattle.log_model.specs.Rows.{tells, tell, next_ballot, leads, lead, promises, joins, on_prepare, on_promise}
use Rattle.log_model.specs.Rows.{promised_by, to_offer, offers, offer_as, offer, accepts, says_again, on_accept}
use Rattle.log_model.specs.Rows.{learned_turn, notes, on_accepted, on_learn, on_ask, on_msg}
use Rattle.log_model.proofs.Ranged.{length_push}
use Rattle.log_values.specs.declared.any_value.AnyValue.{AnyValue}
use Rattle.round_model.specs.Lists.{each}
use Rattle.tier_model.specs.Moves.{log_packet, log_packets, asks}
use Rattle.world.specs.Parts.{HaveRoom}
use Rattle.log_model.proofs.Basics.{between}

-- ONE FOR EACH

pub each_few : {A : Type 0} (n : ℕ) (skip : ℕ → Bool) (f : ℕ → A) → length (each n skip f) ≤ n
each_few zero skip f = omega arith
each_few {A} (suc n) skip f =
    let last : length (cond {A = List A} (skip n) [] (f n ∷ [])) ≤ 1 = cond_both {A = List A} (skip n) [] (f n ∷ [])
    (λ z. length z ≤ 1) (λ e. omega arith) (λ e. omega arith) in
    omega (arith, length-append (each n skip f) (cond {A = List A} (skip n) [] (f n ∷ [])), each_few n skip f)

to_each_few : {V : Type 0} (n : ℕ) (skip : ℕ → Bool) (m : PaxMsg V) → length (to_each n skip m) ≤ n
to_each_few zero skip m = omega arith
to_each_few {V} (suc n) skip m =
    let last : length (cond {A = List (ℕ × PaxMsg V)} (skip n) [] ((n, m) ∷ [])) ≤ 1 = cond_both
    {A = List (ℕ × PaxMsg V)} (skip n) [] ((n, m) ∷ []) (λ z. length z ≤ 1) (λ e. omega arith) (λ e. omega arith) in
    omega (arith, length-append (to_each n skip m) (cond {A = List (ℕ × PaxMsg V)} (skip n) [] ((n, m) ∷ [])), to_each_few n skip m)

-- TURNS

-- At most one fact is written where `first` is the first open position, and `next` is that afterwards. A learned one stands
-- at the first open position.
abbrev pub IsWritten : {V : Type 0} → ℕ → ℕ → List (Fact V) → Type 0
IsWritten first next [] = next ≡ first
IsWritten first next (Promised b ∷ []) = next ≡ first
IsWritten first next (Voted p b v ∷ []) = next ≡ first
IsWritten first next (Learned p v ∷ []) = (p ≡ first) × (next ≡ first + 1)
IsWritten first next (f ∷ g ∷ fs) = ⊥

pub few_facts : {V : Type 0} (first next : ℕ) (fs : List (Fact V)) → IsWritten first next fs → length fs ≤ 1
few_facts first next [] w = omega arith
few_facts first next (f ∷ []) w = omega arith
few_facts first next (Promised b ∷ g ∷ fs) w = absurd w
few_facts first next (Voted p b v ∷ g ∷ fs) w = absurd w
few_facts first next (Learned p v ∷ g ∷ fs) w = absurd w

pub record IsFew {V : Type 0} (u : ℕ) (log : LogState V) (turn : Turn V) : Type 0 where
  pub most : length turn.sends ≤ 4 * u + 2
  pub written : IsWritten (open_at log) (open_at turn.state) turn.facts

idle_few : {V : Type 0} (u : ℕ) (log : LogState V) (why : LogIdle) → IsFew u log (idles log why)
idle_few u log why = record { most = omega arith; written = refl }

stay_few : {V : Type 0} (u : ℕ) (log : LogState V) → IsFew u log (stays log)
stay_few u log = record { most = omega arith; written = refl }

says_few : {V : Type 0} (u : ℕ) (log : LogState V) (sends : List (ℕ × PaxMsg V)) → length sends ≤ 4 * u + 2 → IsFew u log (says log sends)
says_few u log sends l = record { most = l; written = refl }

tell_few : {V : Type 0} (u : ℕ) (log : LogState V) (s p : ℕ) → IsFew u log (tell log s p)
tell_few {V} u log s p = says_few u log (tells s p (slice_get log.learned p)) (go (slice_get log.learned p))
  where
    go : (o : Option V) → length (tells s p o) ≤ 4 * u + 2
    go None = omega arith
    go (Some v) = omega arith

either : {V : Type 0} (u : ℕ) (log : LogState V) (b : Bool) (x y : Turn V) → IsFew u log x → IsFew u log y → IsFew u log (cond b x y)
either u log true x y k l = k
either u log false x y k l = l

-- where the second one needs that the test failed
or_else : {V : Type 0} (u : ℕ) (log : LogState V) (b : Bool) (x y : Turn V) → IsFew u log x → (b ≡ false → IsFew u log y) → IsFew u log (cond b x y)
or_else u log true x y k l = k
or_else u log false x y k l = l refl

ask_few : {V : Type 0} (u : ℕ) (log : LogState V) (s p : ℕ) → IsFew u log (on_ask log s p)
ask_few u log s p = either u log _ _ _ (tell_few u log s p) (idle_few u log Nothing)

promises_few : {V : Type 0} (u : ℕ) (log : LogState V) (s : ℕ) (b : Ballot) (p : ℕ) → IsFew u log (promises log s b p)
promises_few u log s b p = record { most = omega arith; written = refl }

prepare_few : {V : Type 0} (u : ℕ) (log : LogState V) (s : ℕ) (b : Ballot) (p : ℕ) → IsFew u log (on_prepare log s b p)
prepare_few u log s b p = either u log _ _ _ (tell_few u log s p) (either u log _ _ _ (idle_few u log (Stale log.promised)) (promises_few u log s b p))

promise_few : {V : Type 0} (u : ℕ) (log : LogState V) (o : Option (Leader V)) (s : ℕ) (b : Ballot) (p : ℕ)
    (a : Option (Ballot × V)) → IsFew u log (on_promise log o s b p a)
promise_few u log None s b p a = idle_few u log Nothing
promise_few u log (Some l) s b p a = either u log _ (joins log l s p a) (idles log Nothing)
    (record { most = omega arith; written = refl }) (idle_few u log Nothing)

again_few : {V : Type 0} (u : ℕ) (b : Ballot) (p : ℕ) (o : Option (Ballot × V)) → length (says_again u b p o) ≤ 4 * u + 2
again_few u b p None = omega arith
again_few u b p (Some a) = omega (arith, to_each_few (2 * u + 1) nobody (Accepted b p a.1))

behind_few : {V : Type 0} (u : ℕ) (log : LogState V) (s p : ℕ) → IsFew u log (says log ((s, Behind p) ∷ []))
behind_few u log s p = record { most = omega arith; written = refl }

accepts_few : {V : Type 0} (u : ℕ) (log : LogState V) (b : Ballot) (p : ℕ) (v : V) → IsFew u log (accepts u log b p v)
accepts_few u log b p v = record { most = omega (arith, to_each_few (2 * u + 1) nobody (Accepted b p v)); written = refl }

accept_few : {V : Type 0} (u : ℕ) (log : LogState V) (s : ℕ) (b : Ballot) (p : ℕ) (v : V) → IsFew u log (on_accept u log s b p v)
accept_few u log s b p v =
    either u log _ _ _ (tell_few u log s p) (either u log _ _ _ (behind_few u log s (open_at log)) (either u log _ _ _ (idle_few u log (Stale log.promised))
    (either u log _ _ _ (says_few u log (says_again u b p log.accepted) (again_few u b p log.accepted)) (accepts_few u log b p v))))

learned_few : {V : Type 0} (u : ℕ) (log : LogState V) (p : ℕ) (v : V) (sends : List (ℕ × PaxMsg V)) → length sends ≤ 1
    → p ≡ open_at log → IsFew u log (learned_turn log p v sends)
learned_few u log p v sends l e = record { most = omega (arith, l); written = (e, omega (arith, length_push log.learned v)) }

notes_few : {V : Type 0} (u : ℕ) (log : LogState V) (s : ℕ) (b : Ballot) → IsFew u log (notes log s b)
notes_few u log s b = record { most = omega arith; written = refl }

accepted_few : {V : Type 0} (u : ℕ) (log : LogState V) (s : ℕ) (b : Ballot) (p : ℕ) (v : V) → IsFew u log (on_accepted u log s b p v)
accepted_few u log s b p v =
    or_else u log (nat_lt p (open_at log)) _ _ (idle_few u log Nothing)
    (λ e. or_else u log (nat_lt (open_at log) p) _ _ (idle_few u log (IsBehind (open_at log)))
    (λ f. either u log (is_from b (seen_at log.seen s)) _ _ (idle_few u log Nothing)
    (either u log (nat_lt u (count_below (2 * u + 1) (with_ballot log.seen s b))) _ _
    (learned_few u log p v [] (omega arith) (between p (open_at log) e f)) (notes_few u log s b))))

learn_few : {V : Type 0} (u : ℕ) (log : LogState V) (s p : ℕ) (v : V) → IsFew u log (on_learn log s p v)
learn_few u log s p v =
    or_else u log (nat_lt p (open_at log)) _ _ (idle_few u log Nothing)
    (λ e. or_else u log (nat_lt (open_at log) p) _ _ (idle_few u log (IsBehind (open_at log)))
    (λ f. learned_few u log p v ((s, Ask (p + 1)) ∷ []) (omega arith) (between p (open_at log) e f)))

pub msg_few : {V : Type 0} (u : ℕ) (log : LogState V) (s : ℕ) (m : PaxMsg V) → IsFew u log (on_msg u log s m)
msg_few u log s (Prepare b p) = prepare_few u log s b p
msg_few u log s (Promise b p a) = promise_few u log log.leader s b p a
msg_few u log s (Accept b p v) = accept_few u log s b p v
msg_few u log s (Accepted b p v) = accepted_few u log s b p v
msg_few u log s (Ask p) = ask_few u log s p
msg_few u log s (Learn p v) = learn_few u log s p v
msg_few u log s (Behind p) = ask_few u log s p

leads_few : {V : Type 0} (u x : ℕ) (log : LogState V) → IsFew u log (leads u x log)
leads_few {V} u x log =
    let prepare : PaxMsg V = Prepare (next_ballot x log) (open_at log) in
    record { most = omega (arith, to_each_few (2 * u + 1) (is x) prepare); written = refl }

pub lead_few : {V : Type 0} (u x : ℕ) (log : LogState V) → IsFew u log (lead u x log)
lead_few u x log = either u log _ _ _ (idle_few u log BallotSpent) (leads_few u x log)

offers_few : {V : Type 0} (u x : ℕ) (log : LogState V) (l : Leader V) (o : Option V) → IsFew u log (offers u x log l o)
offers_few u x log l None = stay_few u log
offers_few u x log l (Some v) = record {
  most = omega (
    arith,
    length-append (to_each (2 * u + 1) (is x) (Accept l.ballot (open_at log) v))
        (to_each (2 * u + 1) nobody (Accepted l.ballot (open_at log) v)),
    to_each_few (2 * u + 1) (is x) (Accept l.ballot (open_at log) v),
    to_each_few (2 * u + 1) nobody (Accepted l.ballot (open_at log) v),
  );
  written = refl;
}

offer_as_few : {V : Type 0} (u x : ℕ) (log : LogState V) (o : Option (Leader V)) (own : Option V) → IsFew u log (offer_as u x log o own)
offer_as_few u x log None own = stay_few u log
offer_as_few u x log (Some l) own = either u log (nat_le (promised_by u l) u) _ _ (stay_few u log)
    (either u log (open_at log == POSITIONS) _ _ (stay_few u log)
    (either u log (is_at l.last (open_at log)) _ _ (stay_few u log) (offers_few u x log l (to_offer (open_at log) l own))))

pub offer_few : {V : Type 0} (u x : ℕ) (log : LogState V) (own : Option V) → IsFew u log (offer u x log own)
offer_few u x log own = offer_as_few u x log log.leader own

-- PACKETS

pub log_room : (u : ℕ) (t : Tier) (x : ℕ) (sends : List (ℕ × PaxMsg AnyValue)) → u ≤ 2 → length sends ≤ 4 * u + 2 → HaveRoom (log_packets t x sends)
log_room u t x sends l k = omega (arith, length-map sends (log_packet t x))

pub asks_room : (u : ℕ) (t : Tier) (x p : ℕ) → u ≤ 2 → HaveRoom (log_packets t x (asks u x p))
asks_room u t x p l = log_room u t x (asks u x p) l (omega (arith, each_few {A = ℕ × PaxMsg AnyValue} (2 * u + 1) (is x) (λ y. (y, Ask p))))
