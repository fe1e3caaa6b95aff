-- A tier has at most five nodes.
use Rattle.std.proofs.Common.{ℕ, ◌<◌, ◌≤◌, arith}
use Rattle.run_model.specs.World.{Config}
use Rattle.run_model.specs.Runs.{world}
use Rattle.run_model.specs.declared.trace.TraceEvent.{TraceEvent}
use Rattle.std.proofs.Common.{List}
use Rattle.tier_laws.specs.Said.{Laws}
use Rattle.tier_laws.proofs.Events.OneNodeChanges.{Inv as WorldOk}
use Rattle.tier_laws.specs.Services.{Setup, booking_run}
use Rattle.tier_laws.proofs.Events.EachEvent.{world_ok}
use Rattle.tier_laws.proofs.Services.{booking_laws}

pub few : (u : ℕ) → u ≤ 2 → u < 128
few u l = omega arith

pub inv : {B : Type 0} (c : Config B) (es : List TraceEvent) → c.u ≤ 2 → Laws c.service.programs → WorldOk c (world c es)
inv c es l laws = world_ok c es (few c.u l) laws

pub booking_inv : (a : Setup) (es : List TraceEvent) → a.u ≤ 2 → WorldOk (booking_run a) (world (booking_run a) es)
booking_inv a es l = inv (booking_run a) es l booking_laws
