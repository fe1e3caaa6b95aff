-- Calls that come to nothing: the turns of a log, and moves.
use Rattle.std.proofs.Common.{◌≡◌, ℕ, ◌+◌, ◌*◌, Bool, true, false, cond, List, [], ◌∷◌, ◌++◌, refl, sym, ap, ◌∙◌, subst, arith}
use Rattle.std.proofs.Common.{append-nil, Option, Some, None, Result, Ok, Err}
use Rattle.std.specs.Prelude.{slice_get, nat_lt, nat_le, ◌==◌, IfOk, IfSome, is_some}
use Rattle.aeg_base.specs.declared.limits.TheConstants.{POSITIONS}
use Rattle.aeg_base.specs.declared.names.Ballot.{Ballot}
use Rattle.aeg_base.specs.declared.names.End.{End}
use Rattle.aeg_disk.specs.Disk.{DiskState}
use Rattle.fact_journal.specs.Calls.{length_with}
use Rattle.log_model.specs.declared.message.PaxMsg.{PaxMsg}
use Rattle.log_model.specs.declared.message.PaxMsg.TheVariants.{Prepare, Promise, Accept, Accepted, Ask, Learn, Behind}
use Rattle.log_model.specs.declared.turn.LogIdle.{LogIdle}
use Rattle.log_model.specs.declared.turn.LogIdle.TheVariants.{BallotSpent, Stale, Behind as IsBehind, Nothing}
use Rattle.log_model.specs.Log.{Leader, LogState, Turn, open_at, idles, stays, says, seen_at, count_below, is_at, is_from, with_ballot}
use Rattle.log_model.specs.Nodes.{writes}
use Rattle.log_model.specs.Rows.{tells, leads, lead, promises, joins, on_prepare, on_promise, promised_by, to_offer}
use Rattle.log_model.specs.Rows.{offers, offer_as, offer, accepts, says_again, on_accept, learned_turn, notes}
use Rattle.log_model.specs.Rows.{on_accepted, on_learn, on_ask, on_msg}
use Rattle.log_values.specs.declared.any_value.AnyValue.{AnyValue}
use Rattle.log_values.specs.declared.fact.Fact.{Fact}
use Rattle.tier_model.specs.declared.turn.Turn.{Turn as Answer}
use Rattle.tier_model.specs.declared.turn.Fault.{Fault}
use Rattle.tier_model.specs.Moves.{Packet, Move}
use Rattle.node_log.specs.Packets.{all_sealed}
use Rattle.node_log.specs.Views.{View, is_up, Made, Moves, Wrote}
use Rattle.node_log.specs.Quiet.{IsIdleTurn, IsQuietFrom, IsUnmoved, is_quiet}

-- TURNS OF THE LOG

either : (log : LogState AnyValue) (b : Bool) (x y : Turn AnyValue) → IsIdleTurn log x → IsIdleTurn log y → IsIdleTurn log (cond b x y)
either log true x y k l = k
either log false x y k l = l

idle : (log : LogState AnyValue) (why : LogIdle) → IsIdleTurn log (idles log why)
idle log why = record { nothing = refl }

says_something : (log now : LogState AnyValue) (sends : List (ℕ × PaxMsg AnyValue)) → IsIdleTurn log (says now sends)
says_something log now sends = record { nothing = tt }

asked : (log : LogState AnyValue) (s p : ℕ) → IsIdleTurn log (on_ask log s p)
asked log s p = either log _ _ _ (says_something log log (tells s p (slice_get log.learned p))) (idle log Nothing)

promising : (log : LogState AnyValue) (s : ℕ) (b : Ballot) (p : ℕ) → IsIdleTurn log (promises log s b p)
promising log s b p = record { nothing = tt }

prepared : (log : LogState AnyValue) (s : ℕ) (b : Ballot) (p : ℕ) → IsIdleTurn log (on_prepare log s b p)
prepared log s b p = either log _ _ _ (says_something log log (tells s p (slice_get log.learned p)))
    (either log _ _ _ (idle log (Stale log.promised)) (promising log s b p))

joined : (log : LogState AnyValue) (l : Leader AnyValue) (s p : ℕ) (a : Option (Ballot × AnyValue)) → IsIdleTurn log (joins log l s p a)
joined log l s p a = record { nothing = tt }

promised : (log : LogState AnyValue) (o : Option (Leader AnyValue)) (s : ℕ) (b : Ballot) (p : ℕ) (a : Option (Ballot × AnyValue))
    → IsIdleTurn log (on_promise log o s b p a)
promised log None s b p a = idle log Nothing
promised log (Some l) s b p a = either log _ (joins log l s p a) (idles log Nothing) (joined log l s p a) (idle log Nothing)

accepting : (u : ℕ) (log : LogState AnyValue) (b : Ballot) (p : ℕ) (v : AnyValue) → IsIdleTurn log (accepts u log b p v)
accepting u log b p v = record { nothing = tt }

offered : (u : ℕ) (log : LogState AnyValue) (s : ℕ) (b : Ballot) (p : ℕ) (v : AnyValue) → IsIdleTurn log (on_accept u log s b p v)
offered u log s b p v =
    either log _ _ _ (says_something log log (tells s p (slice_get log.learned p)))
    (either log _ _ _ (says_something log log ((s, Behind (open_at log)) ∷ [])) (either log _ _ _ (idle log (Stale log.promised))
    (either log _ _ _ (says_something log log (says_again u b p log.accepted)) (accepting u log b p v))))

learning : (log : LogState AnyValue) (p : ℕ) (v : AnyValue) (sends : List (ℕ × PaxMsg AnyValue)) → IsIdleTurn log (learned_turn log p v sends)
learning log p v sends = record { nothing = tt }

noting : (log : LogState AnyValue) (s : ℕ) (b : Ballot) → IsIdleTurn log (notes log s b)
noting log s b = record { nothing = tt }

accepted : (u : ℕ) (log : LogState AnyValue) (s : ℕ) (b : Ballot) (p : ℕ) (v : AnyValue) → IsIdleTurn log (on_accepted u log s b p v)
accepted u log s b p v =
    either log _ _ _ (idle log Nothing)
    (either log _ _ _ (idle log (IsBehind (open_at log))) (either log (is_from b (seen_at log.seen s)) _ _ (idle log Nothing)
    (either log (nat_lt u (count_below (2 * u + 1) (with_ballot log.seen s b))) _ _ (learning log p v []) (noting log s b))))

learned : (log : LogState AnyValue) (s p : ℕ) (v : AnyValue) → IsIdleTurn log (on_learn log s p v)
learned log s p v = either log _ _ _ (idle log Nothing)
    (either log _ _ _ (idle log (IsBehind (open_at log))) (learning log p v ((s, Ask (p + 1)) ∷ [])))

pub message_idle : (u s : ℕ) (log : LogState AnyValue) (m : PaxMsg AnyValue) → IsIdleTurn log (on_msg u log s m)
message_idle u s log (Prepare b p) = prepared log s b p
message_idle u s log (Promise b p a) = promised log log.leader s b p a
message_idle u s log (Accept b p v) = offered u log s b p v
message_idle u s log (Accepted b p v) = accepted u log s b p v
message_idle u s log (Ask p) = asked log s p
message_idle u s log (Learn p v) = learned log s p v
message_idle u s log (Behind p) = asked log s p

leading : (u x : ℕ) (log : LogState AnyValue) → IsIdleTurn log (leads u x log)
leading u x log = record { nothing = tt }

pub lead_idle : (u x : ℕ) (log : LogState AnyValue) → IsIdleTurn log (lead u x log)
lead_idle u x log = either log _ _ _ (idle log BallotSpent) (leading u x log)

-- an offer never tells why nothing happens
record NeverTells (turn : Turn AnyValue) : Type 0 where
  pub none : turn.idle ≡ None

tells_none : (b : Bool) (x y : Turn AnyValue) → NeverTells x → NeverTells y → NeverTells (cond b x y)
tells_none true x y k l = k
tells_none false x y k l = l

stay_none : (log : LogState AnyValue) → NeverTells (stays log)
stay_none log = record { none = refl }

offers_none : (u x : ℕ) (log : LogState AnyValue) (l : Leader AnyValue) (o : Option AnyValue) → NeverTells (offers u x log l o)
offers_none u x log l None = stay_none log
offers_none u x log l (Some v) = record { none = refl }

offer_as_none : (u x : ℕ) (log : LogState AnyValue) (o : Option (Leader AnyValue)) (own : Option AnyValue) → NeverTells (offer_as u x log o own)
offer_as_none u x log None own = stay_none log
offer_as_none u x log (Some l) own = tells_none (nat_le (promised_by u l) u) _ _ (stay_none log)
    (tells_none (open_at log == POSITIONS) _ _ (stay_none log)
    (tells_none (is_at l.last (open_at log)) _ _ (stay_none log) (offers_none u x log l (to_offer (open_at log) l own))))

pub offer_none : (u x : ℕ) (log : LogState AnyValue) (own : Option AnyValue) → (offer u x log own).idle ≡ None
offer_none u x log own = (offer_as_none u x log log.leader own).none

-- MOVES

module _ {S : Type 0} (row : S → Move S) (old new : View S) (a b : DiskState) (before after : List (End × List ℕ)) where
  sent_none : (sends : List Packet) → sends ≡ [] → after ≡ before ++ all_sealed sends → after ≡ before
  sent_none sends e p = p ∙ ap (λ z. before ++ all_sealed z) e ∙ append-nil before

  wrote_none : (facts : List Fact) → facts ≡ [] → Wrote a b old.place new.place facts → (b ≡ a) × (new.place ≡ old.place)
  wrote_none facts e w =
      let long : new.place + 1 ≡ length_with (old.place + 1) [] = w.long ∙ ap (λ z. length_with (old.place + 1) z) e in
      (w.untouched (ap writes e), omega (arith, long))

  same_node : (s next : S) → old.up ≡ Some s → next ≡ s → new.place ≡ old.place → new ≡ record old { up = Some next; place = new.place } → new ≡ old
  same_node s next up same place e =
      e ∙ ap (λ (z : ℕ). record { faults = old.faults; tier = old.tier; me = old.me; up = Some next; place = z }) place
      ∙ ap (λ z. record { faults = old.faults; tier = old.tier; me = old.me; up = z; place = old.place }) (ap Some same ∙ sym up)

  stood : (s : S) (answer : Answer) → old.up ≡ Some s → IsQuietFrom s (row s) → Made old new before after (row s) answer
      → Wrote a b old.place new.place (row s).facts → is_quiet answer ≡ true → IsUnmoved old new a b before after
  stood s answer up quiet made wrote e =
      let same : is_quiet (row s).answer ≡ true = ap is_quiet (sym made.answer_is) ∙ e in
      let written = wrote_none (row s).facts (quiet.facts same) wrote in
      record {
        node = same_node s (row s).state up (quiet.state same) written.1 made.node;
        disk = written.0;
        packets = sent_none (row s).sends (quiet.sends same) made.packets;
      }

  pub unmoved : (result : Result Answer Fault) → is_up old ≡ true → ((s : S) → IsQuietFrom s (row s)) → Moves old new a b before after row result
      → IfOk result (λ answer. is_quiet answer ≡ true → IsUnmoved old new a b before after)
  unmoved (Err fault) up quiet moves = tt
  unmoved (Ok answer) up quiet moves = go old.up refl
    where
      go : (o : Option S) → old.up ≡ o → is_quiet answer ≡ true → IsUnmoved old new a b before after
      go None none = absurd (let down : is_up old ≡ false = ap (λ (z : Option S). is_some z) none in cc)
      go (Some s) some = stood s answer some (quiet s) (at_state (λ z. Made old new before after (row z) answer) moves.made)
          (at_state (λ z. Wrote a b old.place new.place (row z).facts) moves.wrote)
        where
          at_state : (P : S → Type 0) → IfSome old.up P → P s
          at_state P k = subst (λ z. IfSome z P) some k
