-- How a script's run goes on as it is written.
use Rattle.std.proofs.Common.{◌≡◌, ℕ, ◌+◌, ◌<◌, ◌≤◌, inl, inr, Bool, false, cond, List, [], ◌∷◌, ◌++◌, drop, length}
use Rattle.std.proofs.Common.{Option, Some, None, Result, Ok, Err, refl, sym, ap, subst, ◌∙◌, append-nil, zero, suc}
use Rattle.std.proofs.Common.{arith}
use Rattle.std.specs.Prelude.{slice_get}
use Rattle.aeg_base.specs.declared.limits.TheConstants.{PACKETS_BEFORE}
use Rattle.aeg_disk.specs.Disk.{DiskState}
use Rattle.aeg_io.specs.Bytes.{Gains, GainsFront}
use Rattle.aeg_io.proofs.Gained.{Gains-append, GainsFront-behind, GainsFront-whole, GainsFront-none}
use Rattle.run_model.specs.BookingRuns.{BookingWorld}
use Rattle.run_model.specs.declared.line.Event.{Event}
use Rattle.run_model.specs.declared.trace.TraceEvent.{TraceEvent}
use Rattle.run_model.specs.Script.{Numbered, Script}
use Rattle.run_model.specs.Runs.{world}
use Rattle.run_model.specs.Text.{closing}
use Rattle.run_model.specs.Resolving.{Place, Turned, turn, left_of, starts, first_place}
use Rattle.run_model.specs.Standings.{IsBefore}
use Rattle.run_model.proofs.Appending.{text-last}
use Rattle.run_model.proofs.Beginning.{start_keeps, starts_become, starts_find}
use Rattle.run_model.proofs.Standing.{reaches_world, before_first, before_rest, next_is, before_more, before_none, keeps-last}
use Rattle.world.specs.declared.stop.Stop.{Stop}
use Rattle.world.specs.declared.stop.Stop.TheVariants as stops
use Rattle.world.specs.Disks.{AreDisks}
use Rattle.world.specs.Run.{Run, world_of, new_run, at_place, with_event, turn_of, Starts, MakesEvent, AppliesBy, Applies, closing_of}
use Rattle.aegean_main.specs.Replay.{tiers, events_text, whole_text, KeepsLimit, Overflows, Breaks, Leaves}
use Rattle.aegean_main.specs.Playing.{PlaysNext, DisksStand, Stands, Halts, EndsOr}
use Rattle.aegean_main.proofs.DiskLaws.{disks_more, disks_first}
use Rattle.aegean_main.specs.declared.playing.Halt.{Halt}
use Rattle.aegean_main.specs.declared.playing.Halt.TheVariants as halts

-- ONE CALL OF A SCRIPT'S RUN

-- a run in the tiers of the script
abbrev pub run_in : Script → List TraceEvent → Place → Bool → Run
run_in script es place ended = record { u = script.u; depth = script.depth; trace = es; place = place; has_ended = ended }

same_run : (script : Script) (r : Run) → r.u ≡ script.u → r.depth ≡ script.depth → r ≡ run_in script r.trace r.place r.has_ended
same_run script r e f = λ i. record { u = e i; depth = f i; trace = r.trace; place = r.place; has_ended = r.has_ended }

-- a call that added its lines to a list that was empty
pub made_alone : (old new : Run) (disks_before disks_now : List DiskState) (room lines bytes : List ℕ) (line : Event)
    (answer : Result Bool Stop) → room ≡ [] → bytes ≡ lines → Applies old new disks_before disks_now room lines line answer
    → Applies old new disks_before disks_now [] bytes line answer
made_alone old new disks_before disks_now room lines bytes line answer e f a =
    let P : List ℕ → Type 0 = λ z. Applies old new disks_before disks_now z lines line answer in
    let Q : List ℕ → Type 0 = λ z. Applies old new disks_before disks_now [] z line answer in
    subst Q (sym f) (subst P e a)

-- after a call the run stands before these lines, and what it printed is told by what it had and these bytes
record Moves (script : Script) (es : List TraceEvent) (new : Run) (left : List Numbered) (bytes : List ℕ)
    (disks_first disks_now : List DiskState) : Type 0 where
  u : new.u ≡ script.u
  depth : new.depth ≡ script.depth
  before : IsBefore (tiers script) script new.trace new.place left
  keeps : KeepsLimit script new.trace
  disks : DisksStand script new.trace disks_first disks_now
  text : events_text script new.trace ≡ events_text script es ++ bytes

-- what is next in the script's tiers
abbrev pub turn_in : Script → List TraceEvent → Place → Event → Turned
turn_in script es place line = turn (tiers script) (world (tiers script) es) place line

moves_by : (script : Script) (number : ℕ) (line : Event) (rest : List Numbered) (es : List TraceEvent) (place : Place)
    (ended : Bool) (new : Run) (disks_first disks_before disks_now : List DiskState) (bytes : List ℕ) (again : Bool)
    (o : Option TraceEvent)
    → IsBefore (tiers script) script es place ((number, line) ∷ rest) → KeepsLimit script es
    → DisksStand script es disks_first disks_before → (turn_in script es place line).event ≡ o
    → AppliesBy (run_in script es place ended) new disks_before disks_now [] bytes line
    (turn_in script es place line).place o (Ok again)
    → Moves script es new (cond again ((number, line) ∷ rest) rest) bytes disks_first disks_now
moves_by script number line rest es place ended new disks_first disks_before disks_now bytes again None b k d e a =
    let at : Place = (turn_in script es place line).place in
    let here : Moves script es (at_place (run_in script es place ended) at) rest [] disks_first disks_before = record {
      u = refl;
      depth = refl;
      before = before_rest (tiers script) script es place (number, line) rest e b;
      keeps = k;
      disks = d;
      text = sym (append-nil (events_text script es));
    } in
    let P : Run → Type 0 = λ r. Moves script es r rest [] disks_first disks_before in
    let D : List DiskState → Type 0 = λ z. Moves script es new rest [] disks_first z in
    let Q : List ℕ → Type 0 = λ z. Moves script es new rest z disks_first disks_now in
    let R : Bool → Type 0 = λ z. Moves script es new (cond z ((number, line) ∷ rest) rest) bytes disks_first disks_now in
    subst R (sym a.3) (subst Q (sym a.2) (subst D (sym a.1) (subst P (sym a.0) here)))
moves_by script number line rest es place ended new disks_first disks_before disks_now bytes again (Some due) b k d e a =
    let at : Place = (turn_in script es place line).place in
    let m : MakesEvent (run_in script es place ended) new disks_before disks_now [] bytes due at = a.1 in
    let A : Run → Type 0 = λ r. AreDisks (world_of r) disks_now in
    let here : Moves script es (with_event (run_in script es place ended) m.event at) (left_of (number, line) rest) bytes disks_first disks_now = record {
      u = refl;
      depth = refl;
      before = before_more (tiers script) script es place (number, line) rest due m.event e m.becomes m.finds b;
      keeps = keeps-last (tiers script) es m.event k a.0;
      disks = disks_more script es m.event disks_first disks_before disks_now d m.finds m.cause m.later (subst A m.run m.disks);
      text = text-last (tiers script) es m.event ∙ ap (λ z. events_text script es ++ z) (sym m.told);
    } in
    let P : Run → Type 0 = λ r. Moves script es r (left_of (number, line) rest) bytes disks_first disks_now in
    let R : Bool → Type 0 = λ z. Moves script es new (cond z ((number, line) ∷ rest) rest) bytes disks_first disks_now in
    subst R (sym a.2) (subst P (sym m.run) here)

moves : (script : Script) (number : ℕ) (line : Event) (rest : List Numbered)
    (disks_first disks_before disks_now : List DiskState) (start now : Option (List ℕ)) (old new : Run) (bytes : List ℕ)
    (again : Bool)
    → Stands script old ((number, line) ∷ rest) disks_first disks_before start now
    → Applies old new disks_before disks_now [] bytes line (Ok again)
    → Moves script old.trace new (cond again ((number, line) ∷ rest) rest) bytes disks_first disks_now
moves script number line rest disks_first disks_before disks_now start now old new bytes again s a =
    let P : Run → Type 0 = λ r. Applies r new disks_before disks_now [] bytes line (Ok again) in
    moves_by script number line rest old.trace old.place old.has_ended new disks_first disks_before disks_now bytes
    again (turn_in script old.trace old.place line).event s.before s.keeps s.disks refl
    (subst P (same_run script old s.u s.depth) a)

-- its bytes were written
pub stands_on : (script : Script) (number : ℕ) (line : Event) (rest : List Numbered)
    (disks_first disks_before disks_now : List DiskState) (start before now : Option (List ℕ)) (old new : Run) (again : Bool)
    → PlaysNext old new line disks_before disks_now before now (Ok again)
    → Stands script old ((number, line) ∷ rest) disks_first disks_before start before
    → Stands script new (cond again ((number, line) ∷ rest) rest) disks_first disks_now start now
stands_on script number line rest disks_first disks_before disks_now start before now old new again p s =
    let m = moves script number line rest disks_first disks_before disks_now start before old new p.0 again s p.1 in
    let P : List ℕ → Type 0 = λ z. Gains start now z in
    record {
      u = m.u;
      depth = m.depth;
      before = m.before;
      keeps = m.keeps;
      disks = m.disks;
      written = subst P (sym m.text) (Gains-append start before now (events_text script old.trace) p.0 s.written p.2);
    }

-- WHY A RUN GOES NO FURTHER

-- all that its events print was written
pub breaks_here : (script : Script) (r : Run) (left : List Numbered) (disks_first disks_now : List DiskState)
    (start now : Option (List ℕ)) → Stands script r left disks_first disks_now start now → Breaks script start now
breaks_here script r left disks_first disks_now start now s = record {
  events = r.trace;
  bytes = events_text script r.trace;
  is_text = inl (s.before.standing, s.before.reached, s.keeps, refl);
  front = GainsFront-whole start now (events_text script r.trace) s.written;
}

-- a front of what the call printed was written
breaks_off : (script : Script) (number : ℕ) (line : Event) (rest : List Numbered)
    (disks_first disks_before disks_now : List DiskState) (start before now : Option (List ℕ)) (old new : Run)
    (bytes : List ℕ) (again : Bool)
    → Applies old new disks_before disks_now [] bytes line (Ok again) → GainsFront before now bytes
    → Stands script old ((number, line) ∷ rest) disks_first disks_before start before
    → Halts script disks_first disks_now start now halts.Write
breaks_off script number line rest disks_first disks_before disks_now start before now old new bytes again a f s =
    let m = moves script number line rest disks_first disks_before disks_now start before old new bytes again s a in
    let P : List ℕ → Type 0 = λ z. GainsFront start now z in (
      record {
        events = new.trace;
        bytes = events_text script new.trace;
        is_text = inl (m.before.standing, m.before.reached, m.keeps, refl);
        front = subst P (sym m.text) (GainsFront-behind start before now (events_text script old.trace) bytes s.written f);
      },
      m.disks.leaves,
    )

-- an event is next, and too many packets were sent
overflows_by : (script : Script) (number : ℕ) (line : Event) (rest : List Numbered) (es : List TraceEvent)
    (place : Place) (ended : Bool) (new : Run) (disks_before disks_now : List DiskState) (bytes : List ℕ) (o : Option TraceEvent)
    → IsBefore (tiers script) script es place ((number, line) ∷ rest) → KeepsLimit script es → (turn_in script es place line).event ≡ o
    → AppliesBy (run_in script es place ended) new disks_before disks_now [] bytes line
    (turn_in script es place line).place o (Err stops.Limit) → Overflows script es × (disks_now ≡ disks_before)
overflows_by script number line rest es place ended new disks_before disks_now bytes None b k e a = absurd a
overflows_by script number line rest es place ended new disks_before disks_now bytes (Some event) b k e a =
    let P : BookingWorld → Type 0 = λ w. PACKETS_BEFORE < length w.soup in (
      record {
        standing = b.standing;
        reached = b.reached;
        keeps = k;
        due = record { event = event; place = (turn_in script es place line).place; left = left_of (number, line) rest };
        is_next = next_is (tiers script) script es place (number, line) rest event e b;
        many = subst P (sym (reaches_world (tiers script) script es b.standing b.reached)) a.0;
      },
      a.2,
    )

pub halts_next : (script : Script) (number : ℕ) (line : Event) (rest : List Numbered)
    (disks_first disks_before disks_now : List DiskState) (start before now : Option (List ℕ)) (old new : Run) (halt : Halt)
    → PlaysNext old new line disks_before disks_now before now (Err halt)
    → Stands script old ((number, line) ∷ rest) disks_first disks_before start before
    → Halts script disks_first disks_now start now halt
halts_next script number line rest disks_first disks_before disks_now start before now old new halts.Limit p s =
    let P : Run → Type 0 = λ r. Applies r new disks_before disks_now [] p.0 line (Err stops.Limit) in
    let Q : Option (List ℕ) → Type 0 = λ z. Gains start z (events_text script old.trace) in
    let L : List DiskState → Type 0 = λ z. Leaves script old.trace disks_first z in
    let over = overflows_by script number line rest old.trace old.place old.has_ended new disks_before disks_now p.0
    (turn_in script old.trace old.place line).event s.before s.keeps refl (subst P (same_run script old s.u s.depth) p.1) in
    (old.trace, over.0, subst L (sym over.1) s.disks.leaves, subst Q (sym p.2) s.written)
halts_next script number line rest disks_first disks_before disks_now start before now old new halts.Write p s =
    breaks_off script number line rest disks_first disks_before disks_now start before now old new p.0 p.1 p.2 p.3 s
halts_next script number line rest disks_first disks_before disks_now start before now old new halts.Memory p s =
    let Q : Option (List ℕ) → Type 0 = λ z. Breaks script start z in
    subst Q (sym p) (breaks_here script old ((number, line) ∷ rest) disks_first disks_before start before s)

-- a call leaves the size of the tiers, and the disks are those of the world then
goes_by : (old new : Run) (disks_before disks_now : List DiskState) (before now : List ℕ) (line : Event) (place : Place)
    (o : Option TraceEvent) (again : Bool) → AreDisks (world_of old) disks_before
    → AppliesBy old new disks_before disks_now before now line place o (Ok again) → (new.u ≡ old.u) × AreDisks (world_of new) disks_now
goes_by old new disks_before disks_now before now line place None again d a =
    let P : Run → Type 0 = λ r. AreDisks (world_of r) disks_now in
    let Q : List DiskState → Type 0 = λ z. AreDisks (world_of old) z in
    (ap (λ (r : Run). r.u) a.0, subst P (sym a.0) (subst Q (sym a.1) d))
goes_by old new disks_before disks_now before now line place (Some due) again d a = (ap (λ (r : Run). r.u) a.1.run, a.1.disks)

pub plays_on : (old new : Run) (line : Event) (disks_before disks_now : List DiskState) (before now : Option (List ℕ))
    (again : Bool) → AreDisks (world_of old) disks_before → PlaysNext old new line disks_before disks_now before now (Ok again)
    → (new.u ≡ old.u) × AreDisks (world_of new) disks_now
plays_on old new line disks_before disks_now before now again d p = goes_by old new disks_before disks_now [] p.0 line
    (turn_of old line).place (turn_of old line).event again d p.1

-- THE LINES OF A SCRIPT

-- the first restarts in the tiers of a script
first_moves : (script : Script) (new : Run) (disks_before disks_now : List DiskState) (bytes : List ℕ) → script.u ≤ 2
    → Starts (new_run script.u script.depth) new disks_before disks_now [] bytes
    → Moves script [] new script.events bytes disks_before disks_now
first_moves script new disks_before disks_now bytes few s =
    let A : Run → Type 0 = λ r. AreDisks (world_of r) disks_now in
    let here : Moves script [] (run_in script new.trace first_place false) script.events bytes disks_before disks_now = record {
      u = refl;
      depth = refl;
      before = before_first (tiers script) script new.trace s.become s.finds;
      keeps = start_keeps (tiers script) new.trace s.become;
      disks = disks_first script new.trace disks_before disks_now few s.become s.finds s.causes s.later (subst A s.run s.disks);
      text = sym s.told;
    } in
    let P : Run → Type 0 = λ r. Moves script [] r script.events bytes disks_before disks_now in
    subst P (sym s.run) here

-- what they print in a list that was empty
pub starts_alone : (old new : Run) (disks_before disks_now : List DiskState) (room lines bytes : List ℕ) → room ≡ []
    → bytes ≡ lines → Starts old new disks_before disks_now room lines → Starts old new disks_before disks_now [] bytes
starts_alone old new disks_before disks_now room lines bytes e f s =
    let P : List ℕ → Type 0 = λ z. Starts old new disks_before disks_now z lines in
    let Q : List ℕ → Type 0 = λ z. Starts old new disks_before disks_now [] z in
    subst Q (sym f) (subst P e s)

-- before the first line
pub stands_first : (script : Script) (old new : Run) (disks_before disks_now : List DiskState) (bytes : List ℕ)
    (start now : Option (List ℕ)) → script.u ≤ 2 → old ≡ new_run script.u script.depth
    → Starts old new disks_before disks_now [] bytes
    → Gains start now bytes → Stands script new script.events disks_before disks_now start now
stands_first script old new disks_before disks_now bytes start now few e s g =
    let S : Run → Type 0 = λ r. Starts r new disks_before disks_now [] bytes in
    let m = first_moves script new disks_before disks_now bytes few (subst S e s) in
    let P : List ℕ → Type 0 = λ z. Gains start now z in
    record { u = m.u; depth = m.depth; before = m.before; keeps = m.keeps; disks = m.disks; written = subst P (sym m.text) g }

-- a front of what the first restarts print was written
pub starts_off : (script : Script) (old new : Run) (disks_before disks_now : List DiskState) (bytes : List ℕ)
    (start now : Option (List ℕ)) → script.u ≤ 2 → old ≡ new_run script.u script.depth
    → Starts old new disks_before disks_now [] bytes
    → GainsFront start now bytes → Halts script disks_before disks_now start now halts.Write
starts_off script old new disks_before disks_now bytes start now few e s f =
    let S : Run → Type 0 = λ r. Starts r new disks_before disks_now [] bytes in
    let m = first_moves script new disks_before disks_now bytes few (subst S e s) in
    let P : List ℕ → Type 0 = λ z. GainsFront start now z in (
      record {
        events = new.trace;
        bytes = events_text script new.trace;
        is_text = inl (m.before.standing, m.before.reached, m.keeps, refl);
        front = subst P (sym m.text) f;
      },
      m.disks.leaves,
    )

-- nothing was written before it
pub breaks_first : (script : Script) (start : Option (List ℕ)) → Breaks script start start
breaks_first script start =
    let b = before_first (tiers script) script (starts script.u) (starts_become script.u) (starts_find (tiers script) script.u) in
    record {
      events = starts script.u;
      bytes = events_text script (starts script.u);
      is_text = inl (b.standing, b.reached, start_keeps (tiers script) (starts script.u) (starts_become script.u), refl);
      front = GainsFront-none start (events_text script (starts script.u));
    }

pub stands_at : (script : Script) (r : Run) (left more : List Numbered) (disks_first disks_now : List DiskState)
    (start now : Option (List ℕ)) → left ≡ more → Stands script r left disks_first disks_now start now
    → Stands script r more disks_first disks_now start now
stands_at script r left more disks_first disks_now start now e s = let P : List Numbered
    → Type 0 = λ z. Stands script r z disks_first disks_now start now in subst P e s

-- the disks are those of the run's world
pub stands_disks : (script : Script) (r : Run) (left : List Numbered) (disks_first disks_now : List DiskState)
    (start now : Option (List ℕ)) → Stands script r left disks_first disks_now start now → AreDisks (world_of r) disks_now
stands_disks script r left disks_first disks_now start now s = let P : Run
    → Type 0 = λ z. AreDisks (world_of z) disks_now in subst P (sym (same_run script r s.u s.depth)) s.disks.leaves.disks

-- an element by its number, and those behind it
pub drop_get : {A : Type 0} (xs : List A) (k : ℕ) (x : A) → slice_get xs k ≡ Some x → drop k xs ≡ x ∷ drop (k + 1) xs
drop_get [] k x e = absurd (cc)
drop_get (y ∷ ys) zero x e = let same : y ≡ x = cc in ap (λ z. z ∷ ys) same
drop_get (y ∷ ys) (suc k) x e = let one : suc (k + 1) ≡ suc k + 1 = omega arith in drop_get ys k x e ∙ ap (λ (n : ℕ). x ∷ drop n (y ∷ ys)) one

pub drop_none : {A : Type 0} (xs : List A) (k : ℕ) → slice_get xs k ≡ None → drop k xs ≡ []
drop_none [] zero e = refl
drop_none [] (suc k) e = refl
drop_none (y ∷ ys) zero e = absurd (cc)
drop_none (y ∷ ys) (suc k) e = drop_none ys k e

-- THE END

-- the closing lines in a list that was empty
pub closing_alone : (r : Run) (shown lines room : List ℕ) → shown ≡ lines ++ closing_of r → lines ≡ room → room ≡ [] → shown ≡ closing_of r
closing_alone r shown lines room e f h = e ∙ ap (λ (z : List ℕ). z ++ closing_of r) (f ∙ h)

pub closes : (script : Script) (r : Run) (bytes : List ℕ) (disks_first disks_now : List DiskState)
    (start before now : Option (List ℕ)) → bytes ≡ closing_of r → Gains before now bytes
    → Stands script r [] disks_first disks_now start before
    → EndsOr script disks_first disks_now start now (Ok tt)
closes script r bytes disks_first disks_now start before now e g s =
    let P : Run → Type 0 = λ z. bytes ≡ closing_of z in
    let c : bytes ≡ closing (world (tiers script) r.trace) = subst P (same_run script r s.u s.depth) e in
    let Q : List ℕ → Type 0 = λ z. Gains start now (events_text script r.trace ++ z) in (
      r.trace,
      (before_none (tiers script) script r.trace r.place s.before, s.keeps),
      s.disks.leaves,
      subst Q c (Gains-append start before now (events_text script r.trace) bytes s.written g),
    )

pub closes_off : (script : Script) (r : Run) (bytes : List ℕ) (disks_first disks_now : List DiskState)
    (start before now : Option (List ℕ)) → bytes ≡ closing_of r → GainsFront before now bytes
    → Stands script r [] disks_first disks_now start before
    → Halts script disks_first disks_now start now halts.Write
closes_off script r bytes disks_first disks_now start before now e f s =
    let P : Run → Type 0 = λ z. bytes ≡ closing_of z in
    let c : bytes ≡ closing (world (tiers script) r.trace) = subst P (same_run script r s.u s.depth) e in
    let Q : List ℕ → Type 0 = λ z. GainsFront start now (events_text script r.trace ++ z) in (
      record {
        events = r.trace;
        bytes = whole_text script r.trace;
        is_text = inr ((before_none (tiers script) script r.trace r.place s.before, s.keeps), refl);
        front = subst Q c (GainsFront-behind start before now (events_text script r.trace) bytes s.written f);
      },
      s.disks.leaves,
    )
