-- The restarts before a script's first line send nothing.
use Rattle.std.proofs.Common.{◌≡◌, ◌+◌, ◌*◌, ◌&&◌, nat_le, Bool, true, false, ℕ, List, [], ◌∷◌, length, map, refl, sym}
use Rattle.std.proofs.Common.{ap, ◌∙◌, append-nil, arith, if◌then◌else◌}
use Rattle.std.specs.Prelude.{nat_lt, Option, Some, None}
use Rattle.aeg_base.specs.declared.limits.TheConstants.{PACKETS_BEFORE}
use Rattle.aeg_base.specs.declared.names.NodeId.{NodeId}
use Rattle.aeg_base.specs.declared.names.Tier.{Tier}
use Rattle.aeg_base.specs.declared.names.Tier.TheVariants.{Mid, Inv, Pay}
use Rattle.log_model.specs.Chosen.{chosen_among}
use Rattle.log_model.specs.Nodes.{Node}
use Rattle.log_values.specs.declared.any_value.AnyValue.{AnyValue}
use Rattle.log_values.specs.declared.fact.Fact.{Fact}
use Rattle.tier_model.specs.Kinds.{State}
use Rattle.run_model.specs.declared.trace.Fared.TheVariants.{Fine, Cut, Fault}
use Rattle.run_model.specs.declared.trace.Found.{Found}
use Rattle.run_model.specs.declared.trace.Found.TheVariants.{Reads}
use Rattle.run_model.specs.declared.trace.TraceEvent.{TraceEvent}
use Rattle.run_model.specs.declared.trace.TraceEvent.TheVariants.{Submit, Deliver, Short, Lead, Offer, Work, Retry, Crash, Restart, Wipe}
use Rattle.run_model.specs.World.{Config, World, with_node, restarts, start}
use Rattle.run_model.specs.Runs.{grown, chosen_next, grows_at, grows}
use Rattle.run_model.specs.Text.{after}
use Rattle.run_model.specs.Resolving.{Becomes, AllBecome, AllFind, starts, all_nodes}
use Rattle.run_model.specs.Standings.{keeps_limit}

-- WHAT IS CHOSEN SENDS NOTHING

grown-sends : {B : Type 0} (c : Config B) (w : World B) (t : Tier) (o : Option AnyValue) → (grown c w t o).soup ≡ w.soup
grown-sends c w t None = refl
grown-sends c w t (Some v) = refl

grows_at-sends : {B : Type 0} (c : Config B) (t : Tier) (w : World B) → (grows_at c t w).soup ≡ w.soup
grows_at-sends c t w = grown-sends c w t (chosen_next c w t)

grows-sends : {B : Type 0} (c : Config B) (w : World B) → (grows c w).soup ≡ w.soup
grows-sends c w = grows_at-sends c Pay (grows_at c Inv (grows_at c Mid w)) ∙ (grows_at-sends c Inv (grows_at c Mid w) ∙ grows_at-sends c Mid w)

-- NOR DOES A RESTART

placed-sends : {B : Type 0} (w : World B) (t : Tier) (x : ℕ) (n : Node (State B t) Fact) (b : Bool) → (if b then with_node w t x n [] [] else w).soup ≡ w.soup
placed-sends w t x n true = append-nil w.soup
placed-sends w t x n false = refl

pub restart-sends : {B : Type 0} (c : Config B) (w : World B) (n : NodeId) (found : Found) → (after c w (Restart n found)).soup ≡ w.soup
restart-sends c w n found = grows-sends c (restarts c w found n.tier n.index) ∙ placed-sends w n.tier n.index _ (nat_lt n.index (2 * c.u + 1))

-- what comes of a restart is one of the same node
pub becomes_restart : (n : NodeId) (e : TraceEvent) → Becomes (Restart n (Reads 0)) e → (found : Found) × (e ≡ Restart n found)
becomes_restart n (Restart m found) h = let same : n ≡ m = cc in (found, ap (λ z. Restart z found) (sym same))
becomes_restart n (Deliver k Fine) h = absurd (cc)
becomes_restart n (Deliver k (Cut nth keep)) h = absurd (cc)
becomes_restart n (Deliver k Fault) h = let e = h.1 in absurd (cc)
becomes_restart n (Short k bytes Fine) h = absurd (cc)
becomes_restart n (Short k bytes (Cut nth keep)) h = absurd (cc)
becomes_restart n (Short k bytes Fault) h = let e = h.1 in absurd (cc)
becomes_restart n (Lead m Fine) h = absurd (cc)
becomes_restart n (Lead m (Cut nth keep)) h = absurd (cc)
becomes_restart n (Lead m Fault) h = let e = h.1 in absurd (cc)
becomes_restart n (Offer m Fine) h = absurd (cc)
becomes_restart n (Offer m (Cut nth keep)) h = absurd (cc)
becomes_restart n (Offer m Fault) h = let e = h.1 in absurd (cc)
becomes_restart n (Submit y text) h = absurd (cc)
becomes_restart n (Work m schedule) h = absurd (cc)
becomes_restart n (Retry end) h = absurd (cc)
becomes_restart n (Crash m) h = absurd (cc)
becomes_restart n (Wipe m) h = absurd (cc)

-- and sends nothing
became-sends : {B : Type 0} (c : Config B) (w : World B) (n : NodeId) (e : TraceEvent) → Becomes (Restart n (Reads 0)) e → (after c w e).soup ≡ w.soup
became-sends c w n e h = let r = becomes_restart n e h in ap (λ (z : TraceEvent). (after c w z).soup) r.1 ∙ restart-sends c w n r.0

-- THE FIRST RESTARTS

first_keeps : {B : Type 0} (c : Config B) (ns : List NodeId) (es : List TraceEvent) (w : World B)
    → AllBecome (map (λ n. Restart n (Reads 0)) ns) es → w.soup ≡ [] → keeps_limit c w es ≡ true
first_keeps c [] [] w h s = refl
first_keeps c [] (e ∷ es) w h s = absurd h
first_keeps c (n ∷ ns) [] w h s = absurd h
first_keeps c (n ∷ ns) (e ∷ es) w h s =
    ap (λ z. nat_le (length z) PACKETS_BEFORE && keeps_limit c (after c w e) es) s ∙ first_keeps c ns es (after c w e) h.1 (became-sends c w n e h.0 ∙ s)

-- they begin within the limit on packets
pub start_keeps : {B : Type 0} (c : Config B) (first : List TraceEvent) → AllBecome (starts c.u) first → keeps_limit c start first ≡ true
start_keeps c first h = first_keeps c (all_nodes c.u) first start h refl

-- ON BLANK DISKS WITHOUT A FAULT

restarts_become : (ns : List NodeId) → AllBecome (map (λ n. Restart n (Reads 0)) ns) (map (λ n. Restart n (Reads 0)) ns)
restarts_become [] = tt
restarts_become (n ∷ ns) = (refl, restarts_become ns)

restarts_find : {B : Type 0} (c : Config B) (ns : List NodeId) (w : World B) → AllFind c w (map (λ n. Restart n (Reads 0)) ns)
restarts_find c [] w = tt
restarts_find c (n ∷ ns) w = (omega arith, restarts_find c ns (after c w (Restart n (Reads 0))))

pub starts_become : (u : ℕ) → AllBecome (starts u) (starts u)
starts_become u = restarts_become (all_nodes u)

pub starts_find : {B : Type 0} (c : Config B) (u : ℕ) → AllFind c start (starts u)
starts_find c u = restarts_find c (all_nodes u) start
