-- A run before its first event.
use Rattle.std.proofs.Common.{◌≡◌, ℕ, ◌+◌, ◌*◌, ◌≤◌, List, [], ◌∷◌, refl, sym, ap, ◌∙◌, subst, inl, inr, length, arith}
use Rattle.std.proofs.Common.{Some, None, zero, suc, length-append, add-one}
use Rattle.std.specs.Prelude.{slice_get, ◌⊎◌}
use Rattle.aeg_base.specs.declared.names.Tier.{Tier}
use Rattle.aeg_base.specs.declared.names.Tier.TheVariants as tiers
use Rattle.aeg_disk.specs.Disk.{DiskState}
use Rattle.fact_journal.specs.Standing.{IsAtRest, IsBlank}
use Rattle.fact_journal.proofs.Standing.{blank_stands}
use Rattle.log_model.specs.Log.{nobody}
use Rattle.log_model.specs.Nodes.{stands}
use Rattle.log_model.specs.Nodes.Mode.{Down}
use Rattle.round_model.specs.Lists.{each}
use Rattle.run_model.specs.World.{start}
use Rattle.net_script.specs.Clients.{fresh}
use Rattle.world.specs.declared.nodes.all_nodes.Nodes.{Nodes}
use Rattle.world.specs.declared.parts.Parts.{Parts}
use Rattle.world.specs.Disks.{IsDiskOf, AreDisks, AreBlank, first_of}
use Rattle.world.specs.Parts.{new_part, shape, open_in}
use Rattle.world.specs.NodeLists.{new_mid, new_back, AreNew, views}
use Rattle.world.specs.Watching.{new_watch}
use Rattle.world.specs.Standing.{state_at, IsNode, IsAt, IsClientEnd, AreAll, Shows}
use Rattle.world.proofs.Power.Wipes.{none_stand, blank_within}
use Rattle.log_model.proofs.Basics.{get_push}

each_size : {A : Type 0} (n : ℕ) (f : ℕ → A) → length (each n nobody f) ≡ n
each_size zero f = refl
each_size (suc n) f = length-append (each n nobody f) (f n ∷ []) ∙ add-one (length (each n nobody f)) ∙ ap suc (each_size n f)

each_at : {A : Type 0} (n : ℕ) (f : ℕ → A) (i : ℕ) (a : A) → slice_get (each n nobody f) i ≡ Some a → a ≡ f i
each_at zero f i a e = absurd (cc)
each_at {A} (suc n) f i a e = go (get_push (each n nobody f) (f n) i a e) (λ g. each_at n f i a g)
  where
    go : (slice_get (each n nobody f) i ≡ Some a) ⊎ ((i ≡ length (each n nobody f)) × (f n ≡ a)) → (slice_get (each n nobody f) i ≡ Some a → a ≡ f i) → a ≡ f i
    go (inl g) rec = rec g
    go (inr g) rec = sym g.1 ∙ ap f (sym (g.0 ∙ each_size n f))

all_each : {N V : Type 0} (n : ℕ) (Is : ℕ → N → V → Type 0) (nodes : ℕ → N) (f : ℕ → V) (vs : List V)
    → vs ≡ each n nobody f → ((x : ℕ) → Is x (nodes x) (f x)) → AreAll n Is nodes vs
all_each {N} {V} n Is nodes f vs e h = record {
  size = ap length e ∙ each_size n f;
  each = λ x v g. subst (Is x (nodes x)) (sym (each_at n f x v (sym (ap (λ (z : List V). slice_get z x) e) ∙ g))) (h x);
}

new_is : {S T : Type 0} (t : Tier) (whole : S → T) (open_of : S → ℕ) → IsNode {S = S} {T = T} t whole open_of (stands Down []) new_part
new_is t whole open_of = record { mode = refl; placed = λ e. absurd (cc); doubted = refl; within = (blank_within, tt); stand = none_stand t; opened = tt }

new_nodes : (u depth : ℕ) (nodes : Nodes) → AreNew u depth nodes → (t : Tier) → AreAll (2 * u + 1) (IsAt u depth t) (λ x. stands Down []) (views nodes t)
new_nodes u depth nodes k tiers.Mid = all_each (2 * u + 1) (IsAt u depth tiers.Mid) (λ x. stands Down []) (new_mid u depth) nodes.mids.items k.mids
    (λ x. record { faults = refl; tier = refl; deep = refl; me = refl; part = new_is tiers.Mid (state_at u depth tiers.Mid x) (open_in (shape tiers.Mid)) })
new_nodes u depth nodes k tiers.Inv = all_each (2 * u + 1) (IsAt u depth tiers.Inv) (λ x. stands Down []) (new_back u tiers.Inv) nodes.invs.items k.invs
    (λ x. record { faults = refl; tier = refl; deep = refl; me = refl; part = new_is tiers.Inv (state_at u depth tiers.Inv x) (open_in (shape tiers.Inv)) })
new_nodes u depth nodes k tiers.Pay = all_each (2 * u + 1) (IsAt u depth tiers.Pay) (λ x. stands Down []) (new_back u tiers.Pay) nodes.pays.items k.pays
    (λ x. record { faults = refl; tier = refl; deep = refl; me = refl; part = new_is tiers.Pay (state_at u depth tiers.Pay x) (open_in (shape tiers.Pay)) })

-- nothing was sent, and all nodes are down
pub begins : (u depth : ℕ) (parts : Parts) → u ≤ 2 → parts.u ≡ u → AreNew u depth parts.nodes
    → parts.clients.items ≡ each 17 nobody fresh → parts.soup ≡ [] → parts.watch ≡ new_watch u → Shows u depth start parts
begins u depth parts few size k c s w = record {
  size = size;
  few = few;
  nodes = record { at = new_nodes u depth parts.nodes k };
  clients = all_each 17 IsClientEnd (λ x. record { last = 0; opened = None }) fresh parts.clients.items c (λ y. record { is = refl; asks = refl });
  soup = s;
  within = omega (arith, ap length s);
  fit = λ i p e. absurd (cc);
  reach = λ i p e. absurd (cc);
  watch = w;
}

-- DISKS

blank_disk : {S : Type 0} (disk : DiskState) → IsBlank disk × IsAtRest disk → IsDiskOf {S = S} (stands Down []) disk
blank_disk disk k = record { rest = k.1; lists = blank_stands disk k.0; ready = tt }

pub blank_disks : (disks : List DiskState) → AreBlank disks → AreDisks start disks
blank_disks disks k = record { all = k.0; at = λ t x b l e. blank_disk b (k.1 (first_of t + x) b e) }
