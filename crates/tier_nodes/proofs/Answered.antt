-- A call at a place is its node's event on the node's disk.
use Rattle.std.proofs.Common.{◌≡◌, ℕ, ◌+◌, ◌≤◌, Bool, true, false, List, [], ◌∷◌, refl, sym, ap, ◌∙◌, subst, inl, inr, arith}
use Rattle.std.proofs.Common.{Option, Some, None, Result, Ok, Err}
use Rattle.std.proofs.lemmas.Result.{IfOk-at_ok, IfOk-weaker, on_err_weaker, on_ok_weaker}
use Rattle.std.specs.Prelude.{IfSome, is_some, ◌⊎◌}
use Rattle.aeg_base.specs.declared.names.End.{End}
use Rattle.aeg_base.specs.declared.names.Tier.{Tier}
use Rattle.aeg_disk.specs.Disk.{DiskState, Rose}
use Rattle.aeg_wire.proofs.Grammar.{IsBytes}
use Rattle.fact_journal.specs.Fitting.{EachFits, open_after_all}
use Rattle.fact_journal.specs.Standing.{StandsFor}
use Rattle.frames.proofs.FrameGrammar.{frame_takes}
use Rattle.frames.specs.declared.header.Header.{Header}
use Rattle.frames.specs.declared.header.Refused.{Refused}
use Rattle.frames.specs.declared.message.Msg.{Msg}
use Rattle.frames.specs.Frames.{FitsFrame, frame_of}
use Rattle.log_model.specs.Log.{LogState, open_at}
use Rattle.log_model.specs.Nodes.{Node, moved, recorded, stands}
use Rattle.log_model.specs.Nodes.Device.{Fine as WasFine}
use Rattle.log_model.specs.Nodes.Mode.{Up}
use Rattle.log_values.specs.declared.any_value.AnyValue.{AnyValue}
use Rattle.log_values.specs.declared.fact.Fact.{Fact}
use Rattle.node_log.specs.Received.{on_bytes, on_read}
use Rattle.node_log.specs.Views.{HasCause, Moves, View, Restarts}
use Rattle.node_log.specs.Views as views
use Rattle.run_model.specs.declared.trace.Fared.{Fared}
use Rattle.run_model.specs.World.{can_fare}
use Rattle.tier_model.specs.declared.turn.Fault.{Fault as NodeFault}
use Rattle.tier_model.specs.declared.turn.Fault.TheVariants as faults
use Rattle.tier_model.specs.declared.turn.Turn.{Turn as Answer}
use Rattle.tier_model.specs.Moves.{Move}
use Rattle.tier_nodes.proofs.Moved.{Call, came}
use Rattle.tier_nodes.proofs.Seated.{at_up, is_up_at, seen_up, sure_alone, up_open, up_placed, up_seat}
use Rattle.tier_nodes.proofs.Stops.{armed_faults, asked_can, no_cause}
use Rattle.tier_nodes.specs.Arming.{CanStop, FaresAs, armed_with, asked_of, at_rest, doubts, fared_by, is_fault}
use Rattle.tier_nodes.specs.Calling.{Came, Comes, HadMemory, IsSameSeat, Tells}
use Rattle.tier_nodes.specs.declared.arming.StopAt.{StopAt}
use Rattle.tier_nodes.specs.declared.condition.Condition.TheVariants as conditions
use Rattle.tier_nodes.specs.Moving.{IsMoveOf}
use Rattle.tier_nodes.specs.Seats.{condition_of}
use Rattle.tier_nodes.specs.Standing.{IsDiskOf, IsDoubted, IsNodeOf, IsReady, Seat, journal_of, mode_in, mode_of}

-- OF A NODE THAT IS UP

if_up : {S : Type 0} (P : S → Type 0) (up : Option S) → ((s : S) → up ≡ Some s → P s) → IfSome up P
if_up P None f = tt
if_up P (Some s) f = f s refl

-- IT STAYS THE SAME ONE OF ITS TIER

pub record IsSameView {S : Type 0} (old new : View S) : Type 0 where
  pub faults : new.faults ≡ old.faults
  pub tier : new.tier ≡ old.tier
  pub me : new.me ≡ old.me

pub same_view : {S : Type 0} (old new : View S) (up : Option S) (place : ℕ)
    → new ≡ record { faults = old.faults; tier = old.tier; me = old.me; up = up; place = place } → IsSameView old new
same_view {S} old new up place e = record { faults = ap (λ (z : View S). z.faults) e; tier = ap (λ (z : View S). z.tier) e; me = ap (λ (z : View S). z.me) e }

up_of : {S : Type 0} (v : View S) → views.is_up v ≡ true → (s : S) × (v.up ≡ Some s)
up_of v e = go v.up refl
  where
    go : (o : Option _) → v.up ≡ o → (s : _) × (v.up ≡ Some s)
    go None f = absurd (let g : views.is_up v ≡ false = ap is_some f in cc)
    go (Some s) f = (s, f)

pub moved_view : {S : Type 0} (old new : View S) (a b : DiskState) (before after : List (End × List ℕ)) (row : S → Move S) (answer : Result Answer NodeFault)
    → views.is_up old ≡ true → Moves old new a b before after row answer → IsSameView old new
moved_view old new a b before after row (Ok answer) e h =
    let s = up_of old e in
    same_view old new _ _ (at_up _ old.up s.0 s.1 h.made).node
moved_view old new a b before after row (Err fault) e h = same_view old new _ _ h.down

pub told_view : {S : Type 0} (old new : View S) (before after : List (End × List ℕ)) (row : S → Move S) (answer : Result Answer NodeFault)
    → views.is_up old ≡ true → views.Tells old new before after row answer → IsSameView old new
told_view old new before after row (Ok answer) e h =
    let s = up_of old e in
    same_view old new _ _ (at_up _ old.up s.0 s.1 h.made).node
told_view old new before after row (Err fault) e h = same_view old new _ _ h.down

pub restarted_view : {S : Type 0} (old new : View S) (a b : DiskState) (recovered : List Fact → S) (answer : Result (Unit {0}) NodeFault)
    → Restarts old new a b recovered answer → IsSameView old new
restarted_view old new a b recovered (Ok _) h = same_view old new _ _ h.fits.2
restarted_view old new a b recovered (Err fault) h = same_view old new _ _ h.down

pub same_seat : {S : Type 0} (old new : Seat S) → IsSameView old.view new.view → IsSameSeat old new
same_seat old new k = record { faults = k.faults; tier = k.tier; me = k.me }

-- HOW IT FARES

fares_by : (stop : Option StopAt) (answer : Result Answer NodeFault) (met : Bool) → FaresAs (asked_of stop) (fared_by stop answer met)
fares_by stop (Ok answer) met = inl refl
fares_by stop (Err (faults.JournalFull size)) met = inl refl
fares_by stop (Err faults.Memory) met = inl refl
fares_by stop (Err faults.Disk) true = inl refl
fares_by stop (Err faults.Disk) false = inr refl
fares_by stop (Err (faults.BadRecord at)) met = inl refl

can_by : (stop : Option StopAt) (answer : Result Answer NodeFault) (met : Bool) → CanStop stop → can_fare (fared_by stop answer met) ≡ true
can_by stop (Ok answer) met k = asked_can stop k
can_by stop (Err (faults.JournalFull size)) met k = asked_can stop k
can_by stop (Err faults.Memory) met k = asked_can stop k
can_by stop (Err faults.Disk) true k = asked_can stop k
can_by stop (Err faults.Disk) false k = refl
can_by stop (Err (faults.BadRecord at)) met k = asked_can stop k

cause_by : (stop : Option StopAt) (answer : Result Answer NodeFault) (met : Bool) (disk called : DiskState) (place : ℕ) (facts : List Fact)
    → called.stopped ≡ met → ((fault : NodeFault) → answer ≡ Err fault → HasCause (armed_with stop disk) called place facts fault)
    → is_fault (fared_by stop answer met) ≡ true → Rose disk.faults called.faults
cause_by stop (Ok answer) met disk called place facts e h f = no_cause stop _ f
cause_by stop (Err (faults.JournalFull size)) met disk called place facts e h f = no_cause stop _ f
cause_by stop (Err faults.Memory) met disk called place facts e h f = no_cause stop _ f
cause_by stop (Err faults.Disk) true disk called place facts e h f = no_cause stop _ f
cause_by stop (Err (faults.BadRecord at)) met disk called place facts e h f = no_cause stop _ f
cause_by stop (Err faults.Disk) false disk called place facts e h f = subst (λ z. Rose z called.faults) (armed_faults stop disk) (rose (h faults.Disk refl).2)
  where
    rose : (called.stopped ≡ true) ⊎ Rose (armed_with stop disk).faults called.faults → Rose (armed_with stop disk).faults called.faults
    rose (inl g) = absurd (cc)
    rose (inr r) = r

-- THE CALL

module _ {S : Type 0} (IsIn : S → Type 0) (log_in : S → LogState AnyValue) (old new : Seat S) (before after : List (End × List ℕ)) (row : S → Move S) where
  a_call : (disk called : DiskState) (stop : Option StopAt) (answer : Result Answer NodeFault) (node : Node S Fact) (s : S) → CanStop stop
      → ((s : S) → old.view.up ≡ Some s → IsMoveOf IsIn log_in old.view.tier old.view.me s (row s))
      → Moves old.view new.view (armed_with stop disk) called before after row answer → new.gone ≡ old.gone → new.doubt ≡ doubts answer called.stopped
      → IsNodeOf log_in node old → IsDiskOf node disk → node.mode ≡ Up s
      → Call IsIn log_in node old new disk called stop s (row s) before after answer
  a_call disk called stop answer node s stops goes moves gone doubt is on up = record {
    is = is;
    on = on;
    up = up;
    stops = stops;
    goes = goes s there;
    made = IfOk-weaker answer _ _ (λ a h. at_up _ old.view.up s there h) moves.made;
    wrote = on_ok_weaker answer (λ h. at_up _ old.view.up s there h) moves.wrote;
    down = moves.down;
    nothing_sent = moves.nothing_sent;
    may_have = on_err_weaker answer (λ h. at_up _ old.view.up s there h) moves.may_have;
    cause = λ fault e. at_up (λ s. HasCause (armed_with stop disk) called old.view.place (row s).facts fault) old.view.up s there (moves.cause fault e);
    later = moves.later;
    gone = gone;
    doubt = doubt;
  }
    where
      there : old.view.up ≡ Some s
      there = (up_seat old s (sym is.mode ∙ up)).1

  -- the disk was armed, the call left what is seen then, and the power was put back
  pub comes : (view : View S) (disk armed called disk_after : DiskState) (stop : Option StopAt) (answer : Result Answer NodeFault) (fared : Fared)
      → CanStop stop → condition_of old ≡ conditions.Up
      → ((s : S) → old.view.up ≡ Some s → IsMoveOf IsIn log_in old.view.tier old.view.me s (row s))
      → armed ≡ armed_with stop disk → Moves old.view view armed called before after row answer → new.view ≡ view → new.gone ≡ old.gone
      → new.doubt ≡ doubts answer called.stopped → fared ≡ fared_by stop answer called.stopped → disk_after ≡ at_rest called
      → Comes IsIn log_in old new disk disk_after before after row stop answer fared
  comes view disk armed called disk_after stop answer fared stops condition goes arms moves seen gone doubt fares rests =
      subst (λ z. Comes IsIn log_in old new disk z before after row stop answer fared) (sym rests)
      (subst (λ z. Comes IsIn log_in old new disk (at_rest called) before after row stop answer z) (sym fares) (record {
        came = λ memory node s is on up. came IsIn log_in node old new disk called s (row s) before after stop answer called.stopped refl memory
            (a_call disk called stop answer node s stops goes made gone doubt is on up);
        goes = if_up _ old.view.up goes;
        fares = fares_by stop answer called.stopped;
        can = can_by stop answer called.stopped stops;
        cause = cause_by stop answer called.stopped disk called old.view.place (row here.0).facts refl
            (λ fault e. at_up (λ s. HasCause (armed_with stop disk) called old.view.place (row s).facts fault) old.view.up here.0 there (made.cause fault e));
        later = subst (λ z. z ≤ called.faults) (armed_faults stop disk) made.later.faults;
        same = same_seat old new (moved_view old.view new.view (armed_with stop disk) called before after row answer (seen_up old condition) made);
      }))
    where
      made : Moves old.view new.view (armed_with stop disk) called before after row answer
      made = subst (λ z. Moves old.view new.view z called before after row answer) arms
          (subst (λ z. Moves old.view z armed called before after row answer) (sym seen) moves)

      here : (s : S) × (mode_of old ≡ Up s)
      here = is_up_at old condition

      there : old.view.up ≡ Some here.0
      there = (up_seat old here.0 here.1).1

-- FRAMES

-- bytes that spell no frame make a move of the tier, and so do those of a frame, by its row
pub received : {S : Type 0} (IsMove : Move S → Type 0) (row : End → Msg → S → Move S) (s : S) (bytes : List ℕ) → IsBytes bytes
    → ((refused : Refused) → IsMove (on_read row (Err refused) s))
    → ((from : End) (message : Msg) → FitsFrame from message → IsMove (row from message s)) → IsMove (on_bytes row bytes s)
received IsMove row s bytes are none some = go (frame_of bytes) refl
  where
    go : (r : Result (Header × Msg) Refused) → frame_of bytes ≡ r → IsMove (on_read row r s)
    go (Err refused) e = none refused
    go (Ok found) e = some found.0.from found.1 (frame_takes bytes found are e).0.fit

-- a move that leaves everything as it is, and sends nothing
pub stays : {S : Type 0} (IsIn : S → Type 0) (log_in : S → LogState AnyValue) (t : Tier) (x : ℕ) (s : S) (answer : Answer) → IsIn s
    → IsMoveOf IsIn log_in t x s (record { state = s; facts = []; sends = []; answer = answer })
stays IsIn log_in t x s answer k = record { state = k; sealable = tt; few = omega arith; short = omega arith; facts = tt; opens = refl }

-- A CALL THAT WRITES NOTHING

module _ {S : Type 0} (IsIn : S → Type 0) (log_in : S → LogState AnyValue) (old new : Seat S) (before after : List (End × List ℕ)) (row : S → Move S)
    (answer : Result Answer NodeFault) (is_up : views.is_up old.view ≡ true)
    (goes : (s : S) → old.view.up ≡ Some s → IsMoveOf IsIn log_in old.view.tier old.view.me s (row s)) (silent : (s : S) → (row s).facts ≡ [])
    (told : views.Tells old.view new.view before after row answer) (gone : new.gone ≡ old.gone) (doubt : new.doubt ≡ old.doubt) where
  -- what it sends leaves its journal and its disk alone
  told_ok : (a : Answer) → answer ≡ Ok a → (node : Node S Fact) (s : S) (disk : DiskState) → IsNodeOf log_in node old → IsDiskOf node disk
      → node.mode ≡ Up s → Came log_in new disk before after node WasFine (row s) (Ok a)
  told_ok a e node s disk is on up = record {
    is = subst (λ z. IsNodeOf log_in z new) (sym stood) (record {
      mode = sym (ap (λ z. mode_in z new.view.up) (gone ∙ there.0) ∙ ap (mode_in false) now);
      placed = (ap (λ z. z + 1) told.same_place ∙ placed.0, doubt ∙ placed.1);
      doubted = subst (λ b. IsDoubted b node.records []) (sym (doubt ∙ placed.1)) refl;
      within = (is.within.0, tt);
      fits = subst (λ t. EachFits t (node.records ∷ [])) (sym (same_view old.view new.view _ _ made.node).tier) (is.fits.0, tt);
      opened = (goes s there.1).opens ∙ ap (open_after_all (open_at (log_in s))) (silent s) ∙ up_open log_in node old is s up;
    });
    on = subst (λ z. IsDiskOf z disk) (sym stood) (record {
      rest = on.rest;
      lists = subst (λ z. StandsFor (node.records ∷ z) disk) (sure_alone log_in node old is placed.1) on.lists;
      ready = subst (λ m. IsReady m node.records disk) up on.ready;
    });
    sends = made.packets;
    out = (refl, made.answer_is);
  }
    where
      there : (old.gone ≡ false) × (old.view.up ≡ Some s)
      there = up_seat old s (sym is.mode ∙ up)

      placed : (old.view.place + 1 ≡ journal_of node.records) × (old.doubt ≡ false)
      placed = up_placed log_in node old is s up

      made : views.Made old.view new.view before after (row s) a
      made = at_up (λ s. views.Made old.view new.view before after (row s) a) old.view.up s there.1
          (IfOk-at_ok (λ a. IfSome old.view.up (λ s. views.Made old.view new.view before after (row s) a)) e told.made)

      now : new.view.up ≡ Some (row s).state
      now = ap (λ (z : View S). z.up) made.node

      stood : moved node WasFine (row s).state (row s).facts ≡ stands (Up (row s).state) node.records
      stood = ap (λ z. stands (Up (row s).state) (recorded node.records z)) (silent s)

  pub tells : Tells IsIn log_in old new before after row answer
  tells = record {
    came = λ memory node s disk is on up. go answer refl memory node s disk is on up;
    goes = if_up _ old.view.up goes;
    same = same_seat old new (told_view old.view new.view before after row answer is_up told);
  }
    where
      go : (r : Result Answer NodeFault) → answer ≡ r → HadMemory r → (node : Node S Fact) (s : S) (disk : DiskState) → IsNodeOf log_in node old
          → IsDiskOf node disk → node.mode ≡ Up s → Came log_in new disk before after node WasFine (row s) r
      go (Ok a) e m node s disk is on up = told_ok a e node s disk is on up
      go (Err fault) e m node s disk is on up = absurd (subst (λ (z : NodeFault). HadMemory {A = Answer} (Err z)) (told.memory fault e) m)
