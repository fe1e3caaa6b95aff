-- A run never has more packets than there can be. A world has ended exactly where memory was wanted.
use Rattle.std.proofs.Common.{◌≡◌, ◌≤◌, ℕ, Bool, true, false, List, Option, Some, None, length, arith, rules, Ok, Err, IsTrue, sym, subst}
use Rattle.std.specs.Prelude.{IsErr}
use Rattle.std.specs.declared.result.Result.{Result}
use Rattle.std.specs.Result.{OnOk}
use Rattle.aeg_base.specs.declared.limits.TheConstants.{PACKETS}
use Rattle.aeg_base.specs.declared.memory.Memory.{Memory}
use Rattle.aeg_disk.specs.Disk.{DiskState}
use Rattle.run_model.specs.Resolving.{Place}
use Rattle.run_model.specs.declared.line.Event.{Event}
use Rattle.run_model.specs.declared.trace.TraceEvent.{TraceEvent}
use Rattle.world.specs.declared.progress.Progress.{Progress}
use Rattle.world.specs.declared.stop.Stop.{Stop}
use Rattle.world.specs.declared.stop.Stop.TheVariants as stops
use Rattle.world.specs.Run.{Run, world_of, turn_of, Starts, AppliesBy, Applies, ComesFurther}
use Rattle.world.specs.Going.{run_of, run_with, StaysInStep}
use Rattle.world.proofs.Events.OneMore.{packets_of}

pub within_after : (p : Progress) (result : Result Bool Stop) → StaysInStep p result → OnOk result (length (world_of (run_of p)).soup ≤ PACKETS)
within_after p (Ok again) s = omega (arith, packets_of p s, s.within)
within_after p (Err stops.Limit) s = tt
within_after p (Err stops.Memory) s = tt

-- want of memory says nothing
memory_says_nothing : (old new : Run) (disks_before disks_after : List DiskState) (before now : List ℕ) (line : Event)
    (place : Place) (due : Option TraceEvent)
    → AppliesBy old new disks_before disks_after before now line place due (Err stops.Memory)
memory_says_nothing old new disks_before disks_after before now line place None = tt
memory_says_nothing old new disks_before disks_after before now line place (Some due) = tt

-- what a world that has ended answers
pub applies_ended : (old new : Run) (disks_before disks_after : List DiskState) (before now : List ℕ) (line : Event)
    → Applies old new disks_before disks_after before now line (Err stops.Memory)
applies_ended old new disks_before disks_after before now line = memory_says_nothing old new disks_before disks_after
    before now line (turn_of old line).place (turn_of old line).event

-- what a world that goes on answers, which has ended then exactly where memory was wanted
pub applies_in : (r : Run) (p q : Progress) (ended : Bool) (disks_before disks_after : List DiskState)
    (before now : List ℕ) (line : Event) (answer : Result Bool Stop) → r ≡ run_of p → (IsTrue ended → answer ≡ Err stops.Memory)
    → Applies (run_of p) (run_of q) disks_before disks_after before now line answer
    → Applies r (run_with ended q) disks_before disks_after before now line answer
applies_in r p q true disks_before disks_after before now line answer v ends a = let P : Result Bool Stop
    → Type 0 = λ z. Applies r (run_with true q) disks_before disks_after before now line z in subst P
    (sym (ends (search rules))) (applies_ended r (run_with true q) disks_before disks_after before now line)
applies_in r p q false disks_before disks_after before now line answer v ends a = let P : Run
    → Type 0 = λ z. Applies z (run_of q) disks_before disks_after before now line answer in subst P (sym v) a

-- one that goes on has come further, whether it has ended now
pub further_in : (r : Run) (p q : Progress) (ended : Bool) (answer : Result Bool Stop) → r ≡ run_of p
    → ComesFurther (run_of p) (run_of q) answer → ComesFurther r (run_with ended q) answer
further_in r p q ended answer v f = let P : Run → Type 0 = λ z. ComesFurther z (run_with ended q) answer in subst P (sym v) (come answer f)
  where
    come : (answer : Result Bool Stop) → ComesFurther (run_of p) (run_of q) answer → ComesFurther (run_of p) (run_with ended q) answer
    come (Ok true) f = f
    come (Ok false) f = tt
    come (Err stop) f = tt

-- STARTING

pub starts_in : (r : Run) (p q : Progress) (ended : Bool) (disks_before disks_after : List DiskState)
    (before now : List ℕ) (answer : Result (Unit {0}) Memory) → r ≡ run_of p → (IsTrue ended → IsErr answer)
    → OnOk answer (Starts (run_of p) (run_of q) disks_before disks_after before now)
    → OnOk answer (Starts r (run_with ended q) disks_before disks_after before now)
starts_in r p q true disks_before disks_after before now (Ok done) v ends s = let wrong : false ≡ true = ends (search rules) in absurd (cc)
starts_in r p q false disks_before disks_after before now (Ok done) v ends s = let P : Run
    → Type 0 = λ z. Starts z (run_of q) disks_before disks_after before now in subst P (sym v) s
starts_in r p q ended disks_before disks_after before now (Err wants) v ends s = tt
