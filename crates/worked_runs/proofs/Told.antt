-- What is played is the text of the run that the script comes to.
use Rattle.std.proofs.Common.{◌≡◌, ℕ, zero, suc, true, List, [], ◌∷◌, ◌++◌, map, refl, sym, ap, ◌∙◌, append_assoc, Option, Some, None}
use Rattle.std.specs.Option.{option_map}
use Rattle.server_model.specs.Backends.{Amounts}
use Rattle.aeg_base.specs.declared.names.NodeId.{NodeId}
use Rattle.run_model.specs.declared.trace.Found.TheVariants as found
use Rattle.run_model.specs.declared.trace.TraceEvent.{TraceEvent}
use Rattle.run_model.specs.declared.trace.TraceEvent.TheVariants.{Restart}
use Rattle.run_model.specs.Script.{Script, Read, Reads, Fails, script_of}
use Rattle.run_model.specs.World.{Config, World, start}
use Rattle.run_model.specs.Runs.{run, world}
use Rattle.run_model.specs.Text.{after, event_text, text_from, text, closing}
use Rattle.run_model.specs.Resolving.{Standing, Due, next, stands_after, Goes, AllSure, is_sure, starts, all_nodes, first_standing, Resolves}
use Rattle.run_model.specs.BookingRuns.{config}
use Rattle.run_model.proofs.Appending.{run-append, text-append}
use Rattle.run_model.proofs.Beginning.{starts_become, starts_find}
use Rattle.worked_runs.proofs.Reading.{later_script_of}
use Rattle.worked_runs.proofs.Dues.{both_sure, sure_becomes, sure_finds, next_sure}
use Rattle.worked_runs.proofs.Playing.{plays, plays_from, plays_read, played, later_played}

-- the events that are left to do without a fault, and their text with the closing lines
record Plays (c : Config Amounts) (s : Standing Amounts) (out : List ℕ) : Type 0 where
  events : List TraceEvent
  end : Standing Amounts
  goes : Goes c s events end
  ends : next c end ≡ None
  sure : AllSure events
  is_text : out ≡ text_from c s.world events ++ closing (run c events s.world)

ends_here : (c : Config Amounts) (s : Standing Amounts) (out : List ℕ) → next c s ≡ None → Some (closing s.world) ≡ Some out → Plays c s out
ends_here c s out n e = let same : closing s.world ≡ out = cc in record { events = []; end = s; goes = refl; ends = n; sure = tt; is_text = sym same }

goes_on : (c : Config Amounts) (s : Standing Amounts) (out rest : List ℕ) (d : Due)
    → next c s ≡ Some d → event_text c s.world d.event ++ rest ≡ out → Plays c (stands_after c s.world d d.event) rest → Plays c s out
goes_on c s out rest d n e p =
    let is : is_sure d.event ≡ true = next_sure c s d n in
    let later : World Amounts = after c s.world d.event in
    record {
      events = d.event ∷ p.events;
      end = p.end;
      goes = (d, n, sure_becomes d.event is, sure_finds s.world d.event is, p.goes);
      ends = p.ends;
      sure = (is, p.sure);
      is_text = sym e
          ∙ ap (λ z. event_text c s.world d.event ++ z) p.is_text
          ∙ sym (append_assoc (event_text c s.world d.event) (text_from c later p.events) (closing (run c p.events later)));
    }

then_plays : (c : Config Amounts) (s : Standing Amounts) (out : List ℕ) (d : Due) (rest : Option (List ℕ))
    → next c s ≡ Some d → option_map (λ rest. event_text c s.world d.event ++ rest) rest ≡ Some out
    → ((text : List ℕ) → rest ≡ Some text → Plays c (stands_after c s.world d d.event) text) → Plays c s out
then_plays c s out d None n e more = absurd (cc)
then_plays c s out d (Some rest) n e more = let same : event_text c s.world d.event ++ rest ≡ out = cc in goes_on c s out rest d n same (more rest refl)

plays_by : (k : ℕ) (c : Config Amounts) (s : Standing Amounts) (out : List ℕ) (due : Option Due) → next c s ≡ due
    → elim due [
      | None ↦ Some (closing s.world)
      | Some d ↦ option_map (λ rest. event_text c s.world d.event ++ rest) (plays k c (stands_after c s.world d d.event))
    ] ≡ Some out
    → ((t : Standing Amounts) (text : List ℕ) → plays k c t ≡ Some text → Plays c t text) → Plays c s out
plays_by k c s out None n e more = ends_here c s out n e
plays_by k c s out (Some d) n e more = then_plays c s out d (plays k c (stands_after c s.world d d.event)) n e (more (stands_after c s.world d d.event))

plays_on : (k : ℕ) (c : Config Amounts) (s : Standing Amounts) (out : List ℕ) → plays k c s ≡ Some out → Plays c s out
plays_on zero c s out e = absurd (cc)
plays_on (suc k) c s out e = plays_by k c s out (next c s) refl e (plays_on k c)

restarts_sure : (ns : List NodeId) → AllSure (map (λ n. Restart n (found.Reads 0)) ns)
restarts_sure [] = tt
restarts_sure (n ∷ ns) = (refl, restarts_sure ns)

-- a run of a script without a fault, to its end, with its whole text
pub record IsWholeText (c : Config Amounts) (script : Script) (out : List ℕ) : Type 0 where
  pub events : List TraceEvent
  pub resolves : Resolves c script events
  pub sure : AllSure events
  pub is_text : out ≡ text c events ++ closing (world c events)

whole : (c : Config Amounts) (script : Script) (out rest : List ℕ)
    → text c (starts c.u) ++ rest ≡ out → Plays c (first_standing (world c (starts c.u)) script) rest → IsWholeText c script out
whole c script out rest e p =
    let first : List TraceEvent = starts c.u in
    record {
      events = first ++ p.events;
      resolves = (p.end, (first, p.events, refl, starts_become c.u, starts_find c c.u, p.goes), p.ends);
      sure = both_sure first p.events (restarts_sure (all_nodes c.u)) p.sure;
      is_text = sym e
          ∙ ap (λ z. text c first ++ z) p.is_text
          ∙ sym (append_assoc (text c first) (text_from c (world c first) p.events) (closing (run c p.events (world c first))))
          ∙ ap (λ z. z ++ closing (run c p.events (world c first))) (sym (text-append c first p.events start))
          ∙ ap (λ (z : World Amounts). text c (first ++ p.events) ++ closing z) (sym (run-append c first p.events start));
    }

whole_by : (c : Config Amounts) (script : Script) (out : List ℕ) (rest : Option (List ℕ)) → option_map (λ rest. text c (starts c.u) ++ rest) rest ≡ Some out
    → ((text : List ℕ) → rest ≡ Some text → Plays c (first_standing (world c (starts c.u)) script) text) → IsWholeText c script out
whole_by c script out None e more = absurd (cc)
whole_by c script out (Some rest) e more = let same : text c (starts c.u) ++ rest ≡ out = cc in whole c script out rest same (more rest refl)

script_is_text : (n : ℕ) (c : Config Amounts) (script : Script) (out : List ℕ) → plays_from n c script ≡ Some out → IsWholeText c script out
script_is_text n c script out e =
    whole_by c script out (plays n c (first_standing (world c (starts c.u)) script)) e (plays_on n c (first_standing (world c (starts c.u)) script))

-- INPUTS

-- what is read is a script with this whole text
abbrev pub IsTextOf : Read Script → List ℕ → Type 0
IsTextOf (Reads script) out = IsWholeText (config script.u script.depth) script out
IsTextOf (Fails line row) out = ⊥

read_is_text : (n : ℕ) (read : Read Script) (out : List ℕ) → plays_read n read ≡ Some out → IsTextOf read out
read_is_text n (Reads script) out e = script_is_text n (config script.u script.depth) script out e
read_is_text n (Fails line row) out e = absurd (cc)

pub played_is_text : (n : ℕ) (input out : List ℕ) → played n input ≡ Some out → IsTextOf (script_of input) out
played_is_text n input out e = read_is_text n (script_of input) out e

pub later_is_text : (n : ℕ) (input out : List ℕ) → later_played n input ≡ Some out → IsTextOf (later_script_of input) out
later_is_text n input out e = read_is_text n (later_script_of input) out e
