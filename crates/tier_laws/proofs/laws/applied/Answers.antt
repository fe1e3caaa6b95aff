use Rattle.std.proofs.Common.{ℕ, ◌+◌, ◌*◌, ◌<◌, ◌≤◌, List}
use Rattle.aeg_base.specs.declared.names.Tier.{Tier}
use Rattle.run_model.specs.Runs.{world}
use Rattle.run_model.specs.World.{Config}
use Rattle.run_model.specs.declared.trace.TraceEvent.{TraceEvent}
use Rattle.tier_laws.specs.Said.{Laws, HasApplied}
use Rattle.tier_laws.proofs.Lists.FewNodes.{inv}
use Rattle.tier_laws.proofs.Said.FromInvariant.{applied}
use Rattle.tier_laws.proofs.laws.applied.Goals as goal

applied_in : {B : Type 0} (c : Config B) (es : List TraceEvent) (t : Tier) (x : ℕ) → c.u ≤ 2 → Laws c.service.programs
    → x < 2 * c.u + 1 → HasApplied c (world c es) t ((world c es).nodes t x).mode
applied_in c es t x l laws n = applied c (world c es) t x (inv c es l laws) n

pub returns : goal.returns
returns g z = record { nodes = applied_in }
