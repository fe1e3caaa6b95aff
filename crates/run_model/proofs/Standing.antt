-- How a script's run goes on, line by line and event by event.
use Rattle.std.proofs.Common.{◌≡◌, ◌≤◌, ◌&&◌, nat_le, Bool, true, List, [], ◌∷◌, ◌++◌, length, Some, None, refl, sym, ap, subst, ◌∙◌, append_assoc, append-nil}
use Rattle.std.proofs.lemmas.Bool.{le-leb, and_parts}
use Rattle.aeg_base.specs.declared.limits.TheConstants.{PACKETS_BEFORE}
use Rattle.run_model.specs.declared.trace.TraceEvent.{TraceEvent}
use Rattle.run_model.specs.Script.{Numbered, Script}
use Rattle.run_model.specs.World.{Config, World, start}
use Rattle.run_model.specs.Runs.{run, world}
use Rattle.run_model.specs.Text.{after}
use Rattle.run_model.specs.Resolving.{Place, Standing, Due, turn, left_of, due, due_by, next, stands_after, Goes}
use Rattle.run_model.specs.Resolving.{Becomes, AllBecome, Finds, AllFind, starts, first_place, first_standing, Reaches}
use Rattle.run_model.specs.Resolving.{Resolves}
use Rattle.run_model.specs.Standings.{IsBefore, keeps_limit}
use Rattle.run_model.proofs.Appending.{run-append}

-- a run's standing has the world of its events
goes_world : {B : Type 0} (c : Config B) (s t : Standing B) (es : List TraceEvent) → Goes c s es t → t.world ≡ run c es s.world
goes_world {B} c s t [] g = ap (λ (z : Standing B). z.world) (sym g)
goes_world c s t (e ∷ es) g = goes_world c (stands_after c s.world g.0 e) t es g.4

pub reaches_world : {B : Type 0} (c : Config B) (script : Script) (es : List TraceEvent) (t : Standing B) → Reaches c script es t → t.world ≡ world c es
reaches_world c script es t r =
    goes_world c (first_standing (world c r.0) script) t r.1 r.5 ∙ sym (run-append c r.0 r.1 start) ∙ ap (λ (z : List TraceEvent). world c z) (sym r.2)

-- what restarts found, one after another
pub finds-append : {B : Type 0} (c : Config B) (w : World B) (es fs : List TraceEvent) → AllFind c w es → AllFind c (run c es w) fs → AllFind c w (es ++ fs)
finds-append c w [] fs a b = b
finds-append c w (e ∷ es) fs a b = (a.0, finds-append c (after c w e) es fs a.1 b)

pub finds-last : {B : Type 0} (c : Config B) (w : World B) (es : List TraceEvent) (e : TraceEvent) → AllFind c w es
    → Finds (run c es w) e → AllFind c w (es ++ e ∷ [])
finds-last c w es e a f = finds-append c w es (e ∷ []) a (f, tt)

-- one event more
goes-last : {B : Type 0} (c : Config B) (s t : Standing B) (es : List TraceEvent) (d : Due) (e : TraceEvent)
    → Goes c s es t → next c t ≡ Some d → Becomes d.event e → Finds t.world e → Goes c s (es ++ e ∷ []) (stands_after c t.world d e)
goes-last {B} c s t [] d e g n h f = subst (λ (z : Standing B). Goes c z (e ∷ []) (stands_after c t.world d e)) (sym g) (d, n, h, f, refl)
goes-last c s t (x ∷ es) d e g n h f = (g.0, g.1, g.2, g.3, goes-last c (stands_after c s.world g.0 x) t es d e g.4 n h f)

-- before the first line
pub before_first : {B : Type 0} (c : Config B) (script : Script) (first : List TraceEvent)
    → AllBecome (starts c.u) first → AllFind c start first → IsBefore c script first first_place script.events
before_first c script first h f = record {
  standing = first_standing (world c first) script;
  reached = (first, [], sym (append-nil first), h, f, refl);
  is_next = refl;
}

-- a line with nothing left to do is passed over
pub before_rest : {B : Type 0} (c : Config B) (script : Script) (es : List TraceEvent) (place : Place) (line : Numbered) (rest : List Numbered)
    → (turn c (world c es) place line.1).event ≡ None → IsBefore c script es place (line ∷ rest)
    → IsBefore c script es (turn c (world c es) place line.1).place rest
before_rest c script es place line rest e b = record {
  standing = b.standing;
  reached = b.reached;
  is_next = b.is_next ∙ ap
      (λ z. due_by z (turn c (world c es) place line.1).place line rest
      (due c (world c es) (turn c (world c es) place line.1).place rest)) e;
}

-- the event that a line's turn has is the next
pub next_is : {B : Type 0} (c : Config B) (script : Script) (es : List TraceEvent) (place : Place) (line : Numbered) (rest : List Numbered) (event : TraceEvent)
    → (turn c (world c es) place line.1).event ≡ Some event → (b : IsBefore c script es place (line ∷ rest))
    → next c b.standing
    ≡ Some (record { event = event; place = (turn c (world c es) place line.1).place; left = left_of line rest })
next_is c script es place line rest event e b =
    b.is_next ∙ ap (λ z. due_by z (turn c (world c es) place line.1).place line rest (due c (world c es) (turn c (world c es) place line.1).place rest)) e

-- and is made, or one that it became
pub before_more : {B : Type 0} (c : Config B) (script : Script) (es : List TraceEvent) (place : Place) (line : Numbered)
    (rest : List Numbered) (due_event e : TraceEvent)
    → (turn c (world c es) place line.1).event ≡ Some due_event → Becomes due_event e → Finds (world c es) e
    → IsBefore c script es place (line ∷ rest)
    → IsBefore c script (es ++ e ∷ []) (turn c (world c es) place line.1).place (left_of line rest)
before_more {B} c script es place line rest due_event e t h f b =
    let d : Due = record { event = due_event; place = (turn c (world c es) place line.1).place; left = left_of line rest } in
    let n : next c b.standing ≡ Some d = next_is c script es place line rest due_event t b in
    let w : b.standing.world ≡ world c es = reaches_world c script es b.standing b.reached in
    record {
      standing = stands_after c b.standing.world d e;
      reached = (
        b.reached.0,
        b.reached.1 ++ e ∷ [],
        ap (λ (z : List TraceEvent). z ++ e ∷ []) b.reached.2 ∙ append_assoc b.reached.0 b.reached.1 (e ∷ []),
        b.reached.3,
        b.reached.4,
        goes-last c (first_standing (world c b.reached.0) script) b.standing b.reached.1 d e b.reached.5 n h (subst (λ (z : World B). Finds z e) (sym w) f),
      );
      is_next = ap (λ (z : World B). due c z d.place d.left) (ap (λ (z : World B). after c z e) w ∙ sym (run-append c es (e ∷ []) start));
    }

-- no line is left
pub before_none : {B : Type 0} (c : Config B) (script : Script) (es : List TraceEvent) (place : Place) → IsBefore c script es place [] → Resolves c script es
before_none c script es place b = (b.standing, b.reached, b.is_next)

-- THE LIMIT ON PACKETS

and_true : (a b : Bool) → a ≡ true → b ≡ true → a && b ≡ true
and_true a b e f = ap (λ x. x && b) e ∙ f

-- one event more
keeps_from : {B : Type 0} (c : Config B) (w : World B) (es : List TraceEvent) (e : TraceEvent)
    → keeps_limit c w es ≡ true → length (run c es w).soup ≤ PACKETS_BEFORE → keeps_limit c w (es ++ e ∷ []) ≡ true
keeps_from c w [] e k l = ap (λ b. b && true) (le-leb (length w.soup) PACKETS_BEFORE l)
keeps_from c w (f ∷ es) e k l =
    let both = and_parts (nat_le (length w.soup) PACKETS_BEFORE) (keeps_limit c (after c w f) es) k in
    and_true (nat_le (length w.soup) PACKETS_BEFORE) (keeps_limit c (after c w f) (es ++ e ∷ [])) both.0 (keeps_from c (after c w f) es e both.1 l)

pub keeps-last : {B : Type 0} (c : Config B) (es : List TraceEvent) (e : TraceEvent) → keeps_limit c start es ≡ true
    → length (world c es).soup ≤ PACKETS_BEFORE → keeps_limit c start (es ++ e ∷ []) ≡ true
keeps-last c es e k l = keeps_from c start es e k l
