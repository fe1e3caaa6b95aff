-- A disk that fails takes its node down: nothing of the event is sent.
use Rattle.std.proofs.Common.{◌≡◌, ◌++◌, refl, arith, List, [], ◌∷◌}
use Rattle.std.specs.Fmt.{digits}
use Rattle.aeg_base.specs.Numbers.{checked, number_at, with_number}
use Rattle.run_model.specs.declared.trace.Fared.TheVariants.{Fine, Fault}
use Rattle.run_model.specs.declared.trace.Found.TheVariants.{Reads}
use Rattle.run_model.specs.declared.trace.TraceEvent.{TraceEvent}
use Rattle.run_model.specs.declared.trace.TraceEvent.TheVariants.{Lead, Offer, Restart}
use Rattle.run_model.specs.declared.line.Event.TheVariants as lines
use Rattle.run_model.specs.Script.{Script, Reads as ReadAs, script_of}
use Rattle.run_model.specs.Runs.{world}
use Rattle.run_model.specs.Text.{text, closing}
use Rattle.run_model.specs.Resolving.{Resolves, starts}
use Rattle.run_model.specs.BookingRuns.{config}
use Rattle.run_model.proofs.Beginning.{starts_become, starts_find}
use Rattle.run_model.proofs.Driving.{m}
use Rattle.worked_runs.proofs.Playing.{◌↵◌}

-- the first write of m0's record fails, and a restart finds that the record isn't there
abbrev failing_script : Script
failing_script = record { u = 0; depth = 1; events = (2, lines.Lead (m 0)) ∷ (3, lines.Restart (m 0)) ∷ (4, lines.Offer (m 0)) ∷ [] }

script_is_read : script_of ("tiers 0 depth 1" ↵ "lead m0" ↵ "restart m0" ↵ "offer m0" ↵ []) ≡ ReadAs failing_script
script_is_read = refl

abbrev failing_write : List TraceEvent
failing_write = Lead (m 0) Fault ∷ Restart (m 0) (Reads 0) ∷ Offer (m 0) Fine ∷ []

failing_write_takes_a_node_down : text (config 0 1) (starts 0 ++ failing_write) ++ closing (world (config 0 1) (starts 0 ++ failing_write))
    ≡ "down m0 disk" ↵ "idle m0 not-leader" ↵ "log mid 0" ↵ "log inv 0" ↵ "log pay 0" ↵ "packets 0" ↵ []
unfolding digits checked number_at with_number
failing_write_takes_a_node_down = refl

script_comes_to_it : Resolves (config 0 1) failing_script (starts 0 ++ failing_write)
unfolding digits checked number_at with_number
script_comes_to_it = (
  _,
  (
    starts 0,
    failing_write,
    refl,
    starts_become 0,
    starts_find (config 0 1) 0,
    (_, refl, (Fine, refl), tt, (_, refl, refl, omega arith, (_, refl, refl, tt, refl))),
  ),
  refl,
)
