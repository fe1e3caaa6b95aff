-- The next packet of `flow`.
use Rattle.std.proofs.Common.{◌≡◌, ℕ, ◌+◌, ◌<◌, ◌≤◌, true, false, cond, List, [], ◌∷◌, refl, sym, ap, ◌∙◌, length, arith, drop, Option, Some, None, zero, suc}
use Rattle.std.specs.Prelude.{slice_get, map}
use Rattle.std.proofs.lemmas.Bool.{cond-true, cond-false}
use Rattle.aeg_base.specs.declared.names.End.{End}
use Rattle.aeg_base.specs.declared.names.End.TheVariants.{Node, Client}
use Rattle.tier_model.specs.Moves.{Packet}
use Rattle.run_model.specs.BookingRuns.{BookingWorld}
use Rattle.run_model.specs.Resolving.{is_there, first_to, next_packet}
use Rattle.world.specs.declared.nodes.all_nodes.Nodes.{Nodes}
use Rattle.world.specs.declared.parts.Parts.{Parts}
use Rattle.world.specs.Packets.{is_there_in, is_taken_in}
use Rattle.world.specs.Parts.{Reaches, AllReach, sealed}
use Rattle.world.specs.Standing.{AreNodes, Shows}
use Rattle.world.proofs.Calls.NodesThere.{node_up}

-- the number of the first of these, counted from k, that goes to somebody who is there
abbrev pub first_in : Nodes → ℕ → List (End × List ℕ) → Option ℕ
first_in nodes k [] = None
first_in nodes k (packet ∷ packets) = cond (is_there_in nodes packet.0) (Some k) (first_in nodes (k + 1) packets)

pub first_found : (nodes : Nodes) (k i : ℕ) (packets : List (End × List ℕ)) → i < length packets
    → is_taken_in nodes (slice_get packets i) ≡ true → first_in nodes k (drop i packets) ≡ Some k
first_found nodes k i [] l e = absurd (omega arith)
first_found nodes k zero (packet ∷ packets) l e = cond-true (is_there_in nodes packet.0) _ _ e
first_found nodes k (suc i) (packet ∷ packets) l e = first_found nodes k i packets (omega arith) e

passed : (nodes : Nodes) (k i : ℕ) (packets : List (End × List ℕ)) → i < length packets
    → is_taken_in nodes (slice_get packets i) ≡ false → first_in nodes (k + 1) (drop (suc i) packets)
    ≡ first_in nodes k (drop i packets)
passed nodes k i [] l e = absurd (omega arith)
passed nodes k zero (packet ∷ packets) l e = sym (cond-false (is_there_in nodes packet.0) (Some k) (first_in nodes (k + 1) packets) e)
passed nodes k (suc i) (packet ∷ packets) l e = passed nodes k i packets (omega arith) e

pub first_passed : (nodes : Nodes) (k i : ℕ) (packets : List (End × List ℕ)) → i < length packets
    → is_taken_in nodes (slice_get packets i) ≡ false → first_in nodes (k + 1) (drop (i + 1) packets)
    ≡ first_in nodes k (drop i packets)
first_passed nodes k i packets l e = let one : i + 1
    ≡ suc i = omega arith in ap (λ z. first_in nodes (k + 1) (drop z packets)) one ∙ passed nodes k i packets l e

pub first_none : (nodes : Nodes) (k i : ℕ) (packets : List (End × List ℕ)) → length packets ≤ i → first_in nodes k (drop i packets) ≡ None
first_none nodes k zero [] l = refl
first_none nodes k (suc i) [] l = refl
first_none nodes k zero (packet ∷ packets) l = absurd (omega arith)
first_none nodes k (suc i) (packet ∷ packets) l = first_none nodes k i packets (omega arith)

-- WHO IS THERE

there_is : (u depth : ℕ) (w : BookingWorld) (nodes : Nodes) (packet : Packet) (to : End) → AreNodes u depth w nodes
    → Reaches u packet.from to packet.message → is_there_in nodes to ≡ is_there w to
there_is u depth w nodes packet (Node n) k r = node_up u depth w nodes n.tier n.index k r.0
there_is u depth w nodes packet (Client y) k r = refl

-- PACKETS

first_is : (u depth : ℕ) (w : BookingWorld) (nodes : Nodes) (k : ℕ) (ks : List Packet) → AreNodes u depth w nodes
    → AllReach u ks → first_in nodes k (map sealed ks) ≡ first_to w k ks
first_is u depth w nodes k [] a r = refl
first_is u depth w nodes k (packet ∷ ks) a r =
    let here : is_there_in nodes packet.to ≡ is_there w packet.to = there_is u depth w nodes packet packet.to a (r 0 packet refl) in
    let rest : first_in nodes (k + 1) (map sealed ks) ≡ first_to w (k + 1) ks = first_is u depth w nodes (k + 1) ks a (λ i. r (suc i)) in
    (λ j. cond (here j) (Some k) (rest j))

reach_behind : (u c : ℕ) (ks : List Packet) → AllReach u ks → AllReach u (drop c ks)
reach_behind u zero ks r = r
reach_behind u (suc c) [] r = r
reach_behind u (suc c) (k ∷ ks) r = reach_behind u c ks (λ i. r (suc i))

drop_sealed : (c : ℕ) (ks : List Packet) → drop c (map sealed ks) ≡ map sealed (drop c ks)
drop_sealed zero ks = refl
drop_sealed (suc c) [] = refl
drop_sealed (suc c) (k ∷ ks) = drop_sealed c ks

pub next_is : (u depth : ℕ) (w : BookingWorld) (parts : Parts) (cursor : ℕ) → Shows u depth w parts
    → first_in parts.nodes cursor (drop cursor parts.soup) ≡ next_packet w cursor
next_is u depth w parts cursor s =
    ap (λ z. first_in parts.nodes cursor (drop cursor z)) s.soup
    ∙ ap (first_in parts.nodes cursor) (drop_sealed cursor w.soup)
    ∙ first_is u depth w parts.nodes cursor (drop cursor w.soup) s.nodes (reach_behind u cursor w.soup s.reach)
