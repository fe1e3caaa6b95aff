-- Where a run of a script stands between two of its events, and whether its events keep the limit on packets.
use Rattle.std.specs.Prelude.{◌≡◌, ◌&&◌, nat_le, ℕ, Bool, true, List, [], ◌∷◌, length}
use Rattle.aeg_base.specs.declared.limits.TheConstants.{PACKETS_BEFORE}
use Rattle.aeg_base.specs.declared.names.Tier.{Tier}
use Rattle.run_model.specs.declared.trace.TraceEvent.{TraceEvent}
use Rattle.run_model.specs.Script.{Numbered, Script}
use Rattle.run_model.specs.World.{Config, World}
use Rattle.run_model.specs.Runs.{world}
use Rattle.run_model.specs.Text.{after}
use Rattle.run_model.specs.Resolving.{Place, Standing, next, due, Reaches}

-- The run has made these events, and what is next for it is what is next for these lines from this place. Since its last
-- event lines with nothing left to do may have been passed over.
pub record IsBefore {B : Type 0} (c : Config B) (script : Script) (es : List TraceEvent) (place : Place) (left : List Numbered) : Type 0 where
  pub standing : Standing B
  pub reached : Reaches c script es standing
  pub is_next : next c standing ≡ due c (world c es) place left

-- each of these events begins with no more packets than the limit
abbrev pub keeps_limit : {B : Type 0} → Config B → World B → List TraceEvent → Bool
keeps_limit c w [] = true
keeps_limit c w (e ∷ es) = nat_le (length w.soup) PACKETS_BEFORE && keeps_limit c (after c w e) es

-- each node's disk stands for its list of records alone
pub record IsSole {B : Type 0} (w : World B) : Type 0 where
  pub sole : (t : Tier) (x : ℕ) → (w.nodes t x).others ≡ []
