-- An event ends: its packets join all others, the logs go on, and the parts are again the world's.
use Rattle.std.proofs.Common.{◌≡◌, ℕ, ◌≤◌, length, List, [], ◌++◌, sym, ap, ◌∙◌, subst, inl, inr, Some}
use Rattle.std.proofs.lemmas.List.{map-append}
use Rattle.std.specs.Prelude.{slice_get, map, ◌⊎◌}
use Rattle.aeg_base.specs.declared.limits.TheConstants.{PACKETS}
use Rattle.aeg_base.specs.declared.names.Tier.{Tier}
use Rattle.aeg_base.specs.declared.names.End.{End}
use Rattle.log_values.specs.declared.any_value.AnyValue.{AnyValue}
use Rattle.frames.specs.Frames.{FitsFrame}
use Rattle.tier_model.specs.Moves.{Packet}
use Rattle.run_model.specs.Runs.{grows}
use Rattle.run_model.specs.Text.{growth_text}
use Rattle.world.specs.declared.nodes.all_nodes.Nodes.{Nodes}
use Rattle.world.specs.declared.parts.Parts.{Parts}
use Rattle.run_model.specs.BookingRuns.{config, BookingWorld}
use Rattle.world.specs.Parts.{sealed, AreFit, Reaches, AllReach}
use Rattle.world.specs.Watching.{hears_packets, all_grown, seen_in}
use Rattle.world.specs.Standing.{IsClientEnd, AreAll, AreNodes, Shows}
use Rattle.world.proofs.Votes.GrowingLogs.{Carry, grown_is, growth_is_silent, watch_grows}
use Rattle.world.proofs.Votes.HeardPackets.{heard_in, carries}
use Rattle.log_model.proofs.Basics.{get_cases}

-- What an event makes of a world before its packets let something be chosen: the nodes and clients, and the packets that
-- it sends.
pub record Leads (u depth : ℕ) (w new : BookingWorld) (nodes : Nodes) (ks : List Packet) : Type 0 where
  pub are : AreNodes u depth new nodes
  pub soup : new.soup ≡ w.soup ++ ks
  pub logs : new.logs ≡ w.logs
  pub hist : new.hist ≡ w.hist
  pub fit : AreFit ks
  pub reach : AllReach u ks

fit-append : (xs ys : List Packet) → AreFit xs → AreFit ys → AreFit (xs ++ ys)
fit-append xs ys f g i k e = go (get_cases xs ys i k e)
  where
    go : (slice_get xs i ≡ Some k) ⊎ ((j : ℕ) × (slice_get ys j ≡ Some k)) → FitsFrame k.from k.message
    go (inl h) = f i k h
    go (inr h) = g h.0 k h.1

reach-append : (u : ℕ) (xs ys : List Packet) → AllReach u xs → AllReach u ys → AllReach u (xs ++ ys)
reach-append u xs ys f g i k e = go (get_cases xs ys i k e)
  where
    go : (slice_get xs i ≡ Some k) ⊎ ((j : ℕ) × (slice_get ys j ≡ Some k)) → Reaches u k.from k.to k.message
    go (inl h) = f i k h
    go (inr h) = g h.0 k h.1

-- the parts after the event
pub record Ended (old new : Parts) (nodes : Nodes) (packets : List (End × List ℕ)) : Type 0 where
  pub size : new.u ≡ old.u
  pub is : new.nodes ≡ nodes
  pub soup : new.soup ≡ old.soup ++ packets
  pub within : length new.soup ≤ PACKETS
  pub watch : new.watch ≡ all_grown (hears_packets old.watch packets)

pub ends : (u depth : ℕ) (w w1 : BookingWorld) (old new : Parts) (nodes : Nodes) (ks : List Packet)
    → Shows u depth w old → Leads u depth w w1 nodes ks → Ended old new nodes (map sealed ks)
    → AreAll 17 IsClientEnd w1.clients new.clients.items
    → Shows u depth (grows (config u depth) w1) new × (growth_text w (grows (config u depth) w1) ≡ [])
ends u depth w w1 old new nodes ks s l e clients = (
  subst (λ z. Shows u depth z new) (sym g.1) shown,
  growth_is_silent (config u depth) w w1 carried l.logs l.hist,
)
  where
    reach : AllReach u w1.soup
    reach = subst (AllReach u) (sym l.soup) (reach-append u w.soup ks s.reach l.reach)

    carried : Carry (config u depth) w1
    carried = carries (config u depth) w1 reach

    g : (logs : Tier → List AnyValue) × (grows (config u depth) w1 ≡ record w1 { logs = logs })
    g = grown_is (config u depth) w1 carried

    watch : new.watch ≡ seen_in (config u depth) (grows (config u depth) w1)
    watch = e.watch ∙ ap (λ z. all_grown (hears_packets z (map sealed ks))) s.watch
        ∙ ap all_grown (heard_in (config u depth) w w1 ks l.fit l.soup l.logs) ∙ watch_grows (config u depth) w1 carried

    shown : Shows u depth (record w1 { logs = g.0 }) new
    shown = record {
      size = e.size ∙ s.size;
      few = s.few;
      nodes = subst (λ z. AreNodes u depth (record w1 { logs = g.0 }) z) (sym e.is) (record { at = l.are.at });
      clients = clients;
      soup = e.soup ∙ ap (λ z. z ++ map sealed ks) s.soup ∙ sym (map-append sealed w.soup ks) ∙ ap (map sealed) (sym l.soup);
      within = e.within;
      fit = subst AreFit (sym l.soup) (fit-append w.soup ks s.fit l.fit);
      reach = reach;
      watch = watch ∙ ap (seen_in (config u depth)) g.1;
    }
