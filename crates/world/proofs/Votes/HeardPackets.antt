-- The packets of a world carry on what is seen of it.
use Rattle.std.proofs.Common.{◌≡◌, ℕ, ◌+◌, ◌*◌, ◌<◌, Bool, true, false, cond, List, [], ◌∷◌, ◌++◌, refl, sym, ap, ◌∙◌}
use Rattle.std.proofs.Common.{subst, length, append_assoc, append-nil, zero, suc}
use Rattle.std.specs.Prelude.{map, nat_lt, ◌&&◌}
use Rattle.std.proofs.lemmas.Bool.{and_parts, ltb-true}
use Rattle.aeg_base.specs.declared.names.Tier.{Tier}
use Rattle.aeg_base.specs.declared.names.Tier.TheVariants.{Mid, Inv, Pay}
use Rattle.aeg_base.specs.declared.names.End.{End}
use Rattle.aeg_base.specs.declared.names.End.TheVariants.{Node, Client}
use Rattle.server_model.specs.Server.{same_tier}
use Rattle.server_model.proofs.Tiers.{tier_eq}
use Rattle.log_model.specs.declared.message.PaxMsg.{PaxMsg}
use Rattle.log_model.specs.declared.message.PaxMsg.TheVariants.{Prepare, Promise, Accept, Accepted, Ask, Learn, Behind}
use Rattle.log_model.specs.World.{Packet as LogPacket}
use Rattle.log_model.proofs.Basics.{Every, every-append}
use Rattle.log_values.specs.declared.any_value.AnyValue.{AnyValue}
use Rattle.log_values.specs.declared.any_value.AnyValue.TheVariants as values
use Rattle.log_values.specs.declared.mid_value.MidValue.TheVariants.{Batch, Verdict as Decided}
use Rattle.frames.specs.declared.message.Msg.{Msg}
use Rattle.frames.specs.declared.message.Msg.TheVariants as msgs
use Rattle.frames.specs.Frames.{frame, FitsFrame}
use Rattle.frames.proofs.FrameGrammar.{frame_again}
use Rattle.round_model.specs.Lists.{OfTiers}
use Rattle.tier_model.specs.Moves.{Packet}
use Rattle.frames.specs.Headers.{end_index}
use Rattle.run_model.specs.World.{Config, World}
use Rattle.run_model.specs.Runs.{log_part, log_soup}
use Rattle.run_model.proofs.Soups.{log_soup-append}
use Rattle.world.specs.Parts.{CanStand, IsLogMessage, Reaches, AllReach, sealed, AreFit}
use Rattle.world.specs.Tallies.{Seen, seen_of, hears}
use Rattle.world.specs.Watching.{hears_log, hears_message, hears_found, hears_frame, hears_packets, seen_in}
use Rattle.world.proofs.Votes.Tallies.{AreFrom}
use Rattle.world.proofs.Votes.TalliesAreEnough.{hears_more}
use Rattle.world.proofs.Votes.GrowingLogs.{IsBatch, IsNothing, VotesAre, AllVotes, Carry}

-- LISTS OF PACKETS

log-last : (t : Tier) (xs : List Packet) (k : Packet) → log_soup t (xs ++ k ∷ []) ≡ log_soup t xs ++ log_part t k.from k.to k.message
log-last t xs k = log_soup-append t xs (k ∷ []) ∙ ap (λ z. log_soup t xs ++ z) (append-nil (log_part t k.from k.to k.message))

-- WHAT IS HEARD

-- what is seen where so many positions are chosen
abbrev seen_with : ℕ → List Packet → ℕ → ℕ → ℕ → OfTiers Seen
seen_with u soup a b d = record { mid = seen_of u (log_soup Mid soup) a; inv = seen_of u (log_soup Inv soup) b; pay = seen_of u (log_soup Pay soup) d }

-- a packet of no log
unheard : (u : ℕ) (soup : List Packet) (a b d : ℕ) (k : Packet) → ((t : Tier) → log_part t k.from k.to k.message ≡ [])
    → seen_with u soup a b d ≡ seen_with u (soup ++ k ∷ []) a b d
unheard u soup a b d k e =
    let same : (t : Tier) → log_soup t soup ≡ log_soup t (soup ++ k ∷ []) = λ t. sym (log-last t soup k
    ∙ ap (λ z. log_soup t soup ++ z) (e t) ∙ append-nil (log_soup t soup)) in
    λ i. record { mid = seen_of u (same Mid i) a; inv = seen_of u (same Inv i) b; pay = seen_of u (same Pay i) d }

-- the tiers to which nothing is added
other : (u : ℕ) (t : Tier) (soup : List Packet) (a : ℕ) (k : Packet) → log_part t k.from k.to k.message ≡ []
    → seen_of u (log_soup t soup) a ≡ seen_of u (log_soup t (soup ++ k ∷ [])) a
other u t soup a k e = ap (λ z. seen_of u z a) (sym (log-last t soup k ∙ ap (λ z. log_soup t soup ++ z) e ∙ append-nil (log_soup t soup)))

-- and the one to which the message is
own : (u : ℕ) (t : Tier) (soup : List Packet) (a x to : ℕ) (m : PaxMsg AnyValue) (k : Packet)
    → log_part t k.from k.to k.message ≡ record { from = x; to = to; msg = m } ∷ []
    → hears (seen_of u (log_soup t soup) a) x m ≡ seen_of u (log_soup t (soup ++ k ∷ [])) a
own u t soup a x to m k e = hears_more u (log_soup t soup) a x to m ∙ ap (λ z. seen_of u z a) (sym (log-last t soup k ∙ ap (λ z. log_soup t soup ++ z) e))

node_heard : (u : ℕ) (soup : List Packet) (a b d : ℕ) (t : Tier) (x : ℕ) (to : End) (m : PaxMsg AnyValue)
    → hears_log (seen_with u soup a b d) (Node (record { tier = t; index = x })) m
    ≡ seen_with u (soup ++ record { from = Node (record { tier = t; index = x }); to = to; message = msgs.Log m } ∷ []) a b d
node_heard u soup a b d Mid x to m =
    let k : Packet = record { from = Node (record { tier = Mid; index = x }); to = to; message = msgs.Log m } in
    let p = own u Mid soup a x (end_index to) m k refl in let q = other u Inv soup b k refl in let r = other u Pay soup d k refl in
    λ i. record { mid = p i; inv = q i; pay = r i }
node_heard u soup a b d Inv x to m =
    let k : Packet = record { from = Node (record { tier = Inv; index = x }); to = to; message = msgs.Log m } in
    let p = other u Mid soup a k refl in let q = own u Inv soup b x (end_index to) m k refl in let r = other u Pay soup d k refl in
    λ i. record { mid = p i; inv = q i; pay = r i }
node_heard u soup a b d Pay x to m =
    let k : Packet = record { from = Node (record { tier = Pay; index = x }); to = to; message = msgs.Log m } in
    let p = other u Mid soup a k refl in let q = other u Inv soup b k refl in let r = own u Pay soup d x (end_index to) m k refl in
    λ i. record { mid = p i; inv = q i; pay = r i }

log_heard : (u : ℕ) (soup : List Packet) (a b d : ℕ) (from to : End) (m : PaxMsg AnyValue)
    → hears_log (seen_with u soup a b d) from m
    ≡ seen_with u (soup ++ record { from = from; to = to; message = msgs.Log m } ∷ []) a b d
log_heard u soup a b d (Node n) to m = node_heard u soup a b d n.tier n.index to m
log_heard u soup a b d (Client y) to m = unheard u soup a b d _ (λ t. refl)

message_heard : (u : ℕ) (soup : List Packet) (a b d : ℕ) (from to : End) (message : Msg)
    → hears_message (seen_with u soup a b d) from message
    ≡ seen_with u (soup ++ record { from = from; to = to; message = message } ∷ []) a b d
message_heard u soup a b d from to (msgs.Log m) = log_heard u soup a b d from to m
message_heard u soup a b d from to (msgs.Request seq text) = unheard u soup a b d _ (λ t. refl)
message_heard u soup a b d from to (msgs.Reply who text) = unheard u soup a b d _ (λ t. refl)
message_heard u soup a b d from to (msgs.Token r token order) = unheard u soup a b d _ (λ t. refl)
message_heard u soup a b d from to (msgs.Call n text) = unheard u soup a b d _ (λ t. refl)
message_heard u soup a b d from to (msgs.Answer n code) = unheard u soup a b d _ (λ t. refl)
message_heard u soup a b d from to (msgs.Have t n code) = unheard u soup a b d _ (λ t. refl)
message_heard u soup a b d from to (msgs.Settle g) = unheard u soup a b d _ (λ t. refl)

packet_heard : (u : ℕ) (soup : List Packet) (a b d : ℕ) (k : Packet) → FitsFrame k.from k.message
    → hears_frame (seen_with u soup a b d) (frame k.from k.message) ≡ seen_with u (soup ++ k ∷ []) a b d
packet_heard u soup a b d k f = ap (hears_found (seen_with u soup a b d)) (frame_again k.from k.message f) ∙ message_heard u soup a b d k.from k.to k.message

pub fit-head : (k : Packet) (ks : List Packet) → AreFit (k ∷ ks) → FitsFrame k.from k.message
fit-head k ks f = f zero k refl

pub fit-tail : (k : Packet) (ks : List Packet) → AreFit (k ∷ ks) → AreFit ks
fit-tail k ks f i l e = f (suc i) l e

all_heard : (u : ℕ) (soup ks : List Packet) (a b d : ℕ) → AreFit ks → hears_packets (seen_with u soup a b d) (map sealed ks) ≡ seen_with u (soup ++ ks) a b d
all_heard u soup [] a b d f = ap (λ z. seen_with u z a b d) (sym (append-nil soup))
all_heard u soup (k ∷ ks) a b d f =
    ap (λ z. hears_packets z (map sealed ks)) (packet_heard u soup a b d k (fit-head k ks f))
    ∙ all_heard u (soup ++ k ∷ []) ks a b d (fit-tail k ks f) ∙ ap (λ z. seen_with u z a b d) (append_assoc soup (k ∷ []) ks)

-- more packets of a world whose logs are as they were
pub heard_in : {B : Type 0} (c : Config B) (old new : World B) (ks : List Packet) → AreFit ks
    → new.soup ≡ old.soup ++ ks → new.logs ≡ old.logs → hears_packets (seen_in c old) (map sealed ks) ≡ seen_in c new
heard_in c old new ks f s m =
    all_heard c.u old.soup ks (length (old.logs Mid)) (length (old.logs Inv)) (length (old.logs Pay)) f
    ∙ ap (λ z. seen_with c.u z (length (old.logs Mid)) (length (old.logs Inv)) (length (old.logs Pay))) (sym s)
    ∙ ap (λ z. seen_with c.u new.soup (length (z Mid)) (length (z Inv)) (length (z Pay))) (sym m)

-- WHAT THE LOGS CARRY

abbrev Carried : Tier → AnyValue → Type 0
Carried Mid v = IsBatch v
Carried Inv v = IsNothing v
Carried Pay v = IsNothing v

stands_is : (t : Tier) (p : ℕ) (v : AnyValue) → CanStand t p v → Carried t v
stands_is Mid p (values.Mid (Batch es)) k = tt
stands_is Mid p (values.Mid (Decided v)) k = absurd k
stands_is Mid p (values.Back v) k = absurd k
stands_is Inv p v k = k
stands_is Pay p v k = k

message_is : (t : Tier) (m : PaxMsg AnyValue) → IsLogMessage t m → VotesAre (Carried t) m
message_is t (Accepted b p v) k = stands_is t p v k.1.1
message_is t (Prepare b p) k = tt
message_is t (Promise b p a) k = tt
message_is t (Accept b p v) k = tt
message_is t (Ask p) k = tt
message_is t (Learn p v) k = tt
message_is t (Behind p) k = tt

-- a node's message of its tier's log
record Rides (u : ℕ) (t : Tier) (k : LogPacket AnyValue) : Type 0 where
  from : k.from < 2 * u + 1
  votes : VotesAre (Carried t) k.msg

node_rides : (u : ℕ) (t v s : Tier) (x to : ℕ) (m : PaxMsg AnyValue) → (same_tier s v && nat_lt x (2 * u + 1)) ≡ true
    → IsLogMessage v m → (e : Bool) → same_tier s t ≡ e → Every (Rides u t) (cond e (record { from = x; to = to; msg = m } ∷ []) [])
node_rides u t v s x to m f k false e = tt
node_rides u t v s x to m f k true e =
    let r = and_parts (same_tier s v) (nat_lt x (2 * u + 1)) f in
    let same : v ≡ t = sym (tier_eq s v r.0) ∙ tier_eq s t e in
    (record { from = ltb-true x (2 * u + 1) r.1; votes = message_is t m (subst (λ z. IsLogMessage z m) same k) }, tt)

log_rides : (u : ℕ) (t : Tier) (from to : End) (m : PaxMsg AnyValue) → Reaches u from to (msgs.Log m) → Every (Rides u t) (log_part t from to (msgs.Log m))
log_rides u t from (Client y) m k = absurd k
log_rides u t (Client y) (Node n) m k = tt
log_rides u t (Node s) (Node n) m k = node_rides u t n.tier s.tier s.index n.index m k.1.0 k.1.1 (same_tier s.tier t) refl

part_rides : (u : ℕ) (t : Tier) (from to : End) (message : Msg) → Reaches u from to message → Every (Rides u t) (log_part t from to message)
part_rides u t from to (msgs.Log m) k = log_rides u t from to m k
part_rides u t from to (msgs.Request seq text) k = tt
part_rides u t from to (msgs.Reply who text) k = tt
part_rides u t from to (msgs.Token r token order) k = tt
part_rides u t from to (msgs.Call n text) k = tt
part_rides u t from to (msgs.Answer n code) k = tt
part_rides u t from to (msgs.Have v n code) k = tt
part_rides u t from to (msgs.Settle g) k = tt

all_ride : (u : ℕ) (t : Tier) (ks : List Packet) → AllReach u ks → Every (Rides u t) (log_soup t ks)
all_ride u t [] k = tt
all_ride u t (p ∷ ks) k = every-append (Rides u t) (log_part t p.from p.to p.message) (log_soup t ks)
    (part_rides u t p.from p.to p.message (k zero p refl)) (all_ride u t ks (λ i l e. k (suc i) l e))

rides_from : (u : ℕ) (t : Tier) (ks : List (LogPacket AnyValue)) → Every (Rides u t) ks → AreFrom (2 * u + 1) ks
rides_from u t [] k = tt
rides_from u t (p ∷ ks) k = (k.0.from, rides_from u t ks k.1)

rides_votes : (u : ℕ) (t : Tier) (ks : List (LogPacket AnyValue)) → Every (Rides u t) ks → AllVotes (Carried t) ks
rides_votes u t [] k = tt
rides_votes u t (p ∷ ks) k = (k.0.votes, rides_votes u t ks k.1)

-- where each packet can reach its end, the logs carry batches alone
pub carries : {B : Type 0} (c : Config B) (w : World B) → AllReach c.u w.soup → Carry c w
carries c w k = record {
  mid_from = rides_from c.u Mid (log_soup Mid w.soup) (all_ride c.u Mid w.soup k);
  inv_from = rides_from c.u Inv (log_soup Inv w.soup) (all_ride c.u Inv w.soup k);
  pay_from = rides_from c.u Pay (log_soup Pay w.soup) (all_ride c.u Pay w.soup k);
  batches = rides_votes c.u Mid (log_soup Mid w.soup) (all_ride c.u Mid w.soup k);
  no_calls = rides_votes c.u Inv (log_soup Inv w.soup) (all_ride c.u Inv w.soup k);
  no_charges = rides_votes c.u Pay (log_soup Pay w.soup) (all_ride c.u Pay w.soup k);
}
