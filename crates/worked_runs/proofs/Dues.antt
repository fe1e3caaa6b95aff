-- What a line is due to do may come as it is due: without a fault, and a restart finds the first list of its disk.
use Rattle.std.proofs.Common.{◌≡◌, ◌+◌, ℕ, zero, suc, Bool, true, false, List, [], ◌∷◌, ◌++◌, drop, map, refl, subst, if◌then◌else◌, arith}
use Rattle.std.specs.Prelude.{Option, Some, None}
use Rattle.aeg_base.specs.declared.names.NodeId.{NodeId}
use Rattle.aeg_base.specs.declared.names.Tier.TheVariants.{Mid}
use Rattle.run_model.specs.declared.line.Event.{Event}
use Rattle.run_model.specs.declared.line.Event.TheVariants as lines
use Rattle.run_model.specs.declared.line.CutLine.TheVariants as cuts
use Rattle.run_model.specs.declared.trace.Fared.TheVariants.{Fine, Cut, Fault}
use Rattle.run_model.specs.declared.trace.Found.TheVariants.{Reads, Fault as Fails}
use Rattle.run_model.specs.declared.trace.TraceEvent.{TraceEvent}
use Rattle.run_model.specs.declared.trace.TraceEvent.TheVariants.{Submit, Deliver, Short, Lead, Offer, Work, Retry, Crash, Restart, Wipe}
use Rattle.run_model.specs.Script.{Numbered}
use Rattle.run_model.specs.World.{Config, World}
use Rattle.run_model.specs.Resolving.{Phase, Flows, Asks, Place, Turned, at_end, rests, next_packet, flow_by, nodes_of, all_nodes}
use Rattle.run_model.specs.Resolving.{commands, command_acts, as_noted, first_acting, commands_from, asks_by, calm_from, calm_flows, calm_by, turn}
use Rattle.run_model.specs.Resolving.{Due, due, due_by, Standing, next, Becomes, is_sure, AllSure, Finds}

-- SURE EVENTS

pub sure_becomes : (e : TraceEvent) → is_sure e ≡ true → Becomes e e
sure_becomes (Deliver k Fine) h = refl
sure_becomes (Deliver k (Cut nth keep)) h = refl
sure_becomes (Deliver k Fault) h = absurd (cc)
sure_becomes (Short k bytes Fine) h = refl
sure_becomes (Short k bytes (Cut nth keep)) h = refl
sure_becomes (Short k bytes Fault) h = absurd (cc)
sure_becomes (Lead n Fine) h = refl
sure_becomes (Lead n (Cut nth keep)) h = refl
sure_becomes (Lead n Fault) h = absurd (cc)
sure_becomes (Offer n Fine) h = refl
sure_becomes (Offer n (Cut nth keep)) h = refl
sure_becomes (Offer n Fault) h = absurd (cc)
sure_becomes (Restart n (Reads zero)) h = refl
sure_becomes (Restart n (Reads (suc k))) h = absurd (cc)
sure_becomes (Restart n Fails) h = absurd (cc)
sure_becomes (Submit y text) h = refl
sure_becomes (Work n schedule) h = refl
sure_becomes (Retry end) h = refl
sure_becomes (Crash n) h = refl
sure_becomes (Wipe n) h = refl

pub sure_finds : {B : Type 0} (w : World B) (e : TraceEvent) → is_sure e ≡ true → Finds w e
sure_finds w (Restart n (Reads zero)) h = omega arith
sure_finds w (Restart n (Reads (suc k))) h = absurd (cc)
sure_finds w (Restart n Fails) h = tt
sure_finds w (Deliver k fared) h = tt
sure_finds w (Short k bytes fared) h = tt
sure_finds w (Lead n fared) h = tt
sure_finds w (Offer n fared) h = tt
sure_finds w (Submit y text) h = tt
sure_finds w (Work n schedule) h = tt
sure_finds w (Retry end) h = tt
sure_finds w (Crash n) h = tt
sure_finds w (Wipe n) h = tt

-- where there is an event, it is a sure one
abbrev SureIn : Option TraceEvent → Type 0
SureIn None = Unit {0}
SureIn (Some e) = is_sure e ≡ true

-- COMMANDS OF CALM

offers_sure : (ns : List NodeId) → AllSure (map (λ n. Offer n Fine) ns)
offers_sure [] = tt
offers_sure (n ∷ ns) = (refl, offers_sure ns)

works_sure : (ns : List NodeId) → AllSure (map (λ n. Work n []) ns)
works_sure [] = tt
works_sure (n ∷ ns) = (refl, works_sure ns)

pub both_sure : (es fs : List TraceEvent) → AllSure es → AllSure fs → AllSure (es ++ fs)
both_sure [] fs a b = b
both_sure (e ∷ es) fs a b = (a.0, both_sure es fs a.1 b)

dropped_sure : (k : ℕ) (es : List TraceEvent) → AllSure es → AllSure (drop k es)
dropped_sure zero es a = a
dropped_sure (suc k) [] a = tt
dropped_sure (suc k) (e ∷ es) a = dropped_sure k es a.1

commands_sure : (u : ℕ) → AllSure (commands u)
commands_sure u =
    both_sure (map (λ n. Offer n Fine) (all_nodes u)) (map (λ n. Work n []) (nodes_of u Mid)) (offers_sure (all_nodes u)) (works_sure (nodes_of u Mid))

noted_sure : {B : Type 0} (c : Config B) (w : World B) (e : TraceEvent) → is_sure e ≡ true → is_sure (as_noted c w e) ≡ true
noted_sure c w (Work n schedule) h = refl
noted_sure c w (Deliver k fared) h = h
noted_sure c w (Short k bytes fared) h = h
noted_sure c w (Lead n fared) h = h
noted_sure c w (Offer n fared) h = h
noted_sure c w (Restart n found) h = h
noted_sure c w (Submit y text) h = h
noted_sure c w (Retry end) h = h
noted_sure c w (Crash n) h = h
noted_sure c w (Wipe n) h = h

abbrev SureFound : Option (TraceEvent × ℕ) → Type 0
SureFound None = Unit {0}
SureFound (Some found) = is_sure found.0 ≡ true

acting_sure : {B : Type 0} (c : Config B) (w : World B) (k : ℕ) (es : List TraceEvent) → AllSure es → SureFound (first_acting c w k es)
acting_sure c w k [] a = tt
acting_sure c w k (e ∷ es) a = either (command_acts c w e) (acting_sure c w (k + 1) es a.1)
  where
    either : (acts : Bool) → SureFound (first_acting c w (k + 1) es) → SureFound (if acts then Some (as_noted c w e, k + 1) else first_acting c w (k + 1) es)
    either true later = noted_sure c w e a.0
    either false later = later

found_sure : {B : Type 0} (c : Config B) (w : World B) (k : ℕ) → SureFound (commands_from c w k)
found_sure c w k = acting_sure c w k (drop k (commands c.u)) (dropped_sure k (commands c.u) (commands_sure c.u))

asks_sure : (p : Place) (otherwise : Turned) (found : Option (TraceEvent × ℕ))
    → SureIn otherwise.event → SureFound found → SureIn (asks_by p otherwise found).event
asks_sure p otherwise None o f = o
asks_sure p otherwise (Some found) o f = f

-- LINES

flow_sure : {B : Type 0} (w : World B) (k : Option ℕ) → SureIn (flow_by w k).event
flow_sure w None = tt
flow_sure w (Some k) = refl

from_sure : {B : Type 0} (c : Config B) (w : World B) (p : Place) (k : Option ℕ) → SureIn (calm_from c w p k).event
from_sure c w p None = asks_sure (at_end w) (rests (at_end w)) (commands_from c w 0) tt (found_sure c w 0)
from_sure c w p (Some k) = refl

rest_sure : {B : Type 0} (c : Config B) (w : World B) (p : Place) (did : Bool) → SureIn (if did then calm_flows c w p else rests (at_end w)).event
rest_sure c w p true = from_sure c w p (next_packet w p.cursor)
rest_sure c w p false = tt

calm_sure : {B : Type 0} (c : Config B) (w : World B) (p : Place) (phase : Phase) → SureIn (calm_by c w p phase).event
calm_sure c w p Flows = from_sure c w p (next_packet w p.cursor)
calm_sure c w p (Asks k did) = asks_sure p (if did then calm_flows c w p else rests (at_end w)) (commands_from c w k) (rest_sure c w p did) (found_sure c w k)

turn_sure : {B : Type 0} (c : Config B) (w : World B) (p : Place) (line : Event) → SureIn (turn c w p line).event
turn_sure c w p (lines.Submit y body) = refl
turn_sure c w p (lines.Deliver k) = refl
turn_sure c w p (lines.Short k bytes) = refl
turn_sure c w p (lines.Cut nth keep (cuts.Deliver k)) = refl
turn_sure c w p (lines.Cut nth keep (cuts.Lead n)) = refl
turn_sure c w p (lines.Cut nth keep (cuts.Offer n)) = refl
turn_sure c w p (lines.Lead n) = refl
turn_sure c w p (lines.Offer n) = refl
turn_sure c w p (lines.Retry end) = refl
turn_sure c w p (lines.Work n by) = refl
turn_sure c w p (lines.Crash n) = refl
turn_sure c w p (lines.Restart n) = refl
turn_sure c w p (lines.Wipe n) = refl
turn_sure c w p lines.Flow = flow_sure w (next_packet w p.cursor)
turn_sure c w p lines.Calm = calm_sure c w p p.phase
turn_sure c w p lines.Lose = tt

-- WHAT IS DUE

abbrev SureDue : Option Due → Type 0
SureDue None = Unit {0}
SureDue (Some d) = is_sure d.event ≡ true

due_by_sure : (event : Option TraceEvent) (p : Place) (line : Numbered) (rest : List Numbered) (otherwise : Option Due)
    → SureIn event → SureDue otherwise → SureDue (due_by event p line rest otherwise)
due_by_sure None p line rest otherwise e o = o
due_by_sure (Some event) p line rest otherwise e o = e

due_sure : {B : Type 0} (c : Config B) (w : World B) (p : Place) (left : List Numbered) → SureDue (due c w p left)
due_sure c w p [] = tt
due_sure c w p (line ∷ rest) =
    due_by_sure (turn c w p line.1).event (turn c w p line.1).place line rest (due c w (turn c w p line.1).place rest)
    (turn_sure c w p line.1) (due_sure c w (turn c w p line.1).place rest)

some_due : (due : Option Due) (d : Due) → due ≡ Some d → SureDue due → is_sure d.event ≡ true
some_due None d e s = absurd (cc)
some_due (Some x) d e s = let same : x ≡ d = cc in subst (λ (z : Due). is_sure z.event ≡ true) same s

-- the next event of a script is a sure one
pub next_sure : {B : Type 0} (c : Config B) (s : Standing B) (d : Due) → next c s ≡ Some d → is_sure d.event ≡ true
next_sure c s d e = some_due (next c s) d e (due_sure c s.world s.place s.left)
