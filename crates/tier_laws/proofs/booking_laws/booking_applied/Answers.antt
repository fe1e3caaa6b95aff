use Rattle.std.proofs.Common.{ℕ, ◌+◌, ◌*◌, ◌<◌, ◌≤◌, List}
use Rattle.aeg_base.specs.declared.names.Tier.{Tier}
use Rattle.run_model.specs.Runs.{world}
use Rattle.run_model.specs.declared.trace.TraceEvent.{TraceEvent}
use Rattle.tier_laws.specs.Said.{HasApplied}
use Rattle.tier_laws.specs.Services.{Setup, booking_run}
use Rattle.tier_laws.proofs.Lists.FewNodes.{booking_inv}
use Rattle.tier_laws.proofs.Said.FromInvariant.{applied}
use Rattle.tier_laws.proofs.booking_laws.booking_applied.Goals as goal

applied_in : (a : Setup) (es : List TraceEvent) (t : Tier) (x : ℕ) → a.u ≤ 2 → x < 2 * a.u + 1
    → HasApplied (booking_run a) (world (booking_run a) es) t ((world (booking_run a) es).nodes t x).mode
applied_in a es t x l n = applied (booking_run a) (world (booking_run a) es) t x (booking_inv a es l) n

pub returns : goal.returns
returns x = record { nodes = applied_in }
