-- What a call of a node that is up comes to, by its answer.
use Rattle.std.proofs.Common.{◌≡◌, ℕ, ◌+◌, Bool, true, false, cond, List, [], ◌∷◌, ◌++◌, refl, sym, ap, ◌∙◌, subst, append-nil}
use Rattle.std.proofs.Common.{Option, Some, None, Result, Ok, Err}
use Rattle.std.specs.Prelude.{◌-◌, ◌^◌, IfOk, OnErr, OnOk, min, not}
use Rattle.std.proofs.lemmas.Bool.{cond-true, cond-false}
use Rattle.aeg_base.specs.declared.names.End.{End}
use Rattle.aeg_disk.specs.Disk.{DiskState, Later}
use Rattle.fact_journal.proofs.Fits.{fit_recorded}
use Rattle.fact_journal.proofs.Standing.{having_stands, same_facts, same_stands}
use Rattle.fact_journal.specs.Calls.{IsCut, is_past, length_with}
use Rattle.fact_journal.specs.Fitting.{EachFits, FactsFit, Fit, all_facts, open_after_all}
use Rattle.fact_journal.specs.Standing.{HasFacts, StandsFor}
use Rattle.log_model.specs.Log.{LogState, open_at}
use Rattle.log_model.specs.Nodes.{Device, Node, failed, is_well, moved, recorded, sent, stands, writes}
use Rattle.log_model.specs.Nodes.Device.{CutDrop, Fault as WasFault}
use Rattle.log_model.specs.Nodes.Mode.{Down, Up}
use Rattle.log_values.specs.declared.any_value.AnyValue.{AnyValue}
use Rattle.log_values.specs.declared.fact.Fact.{Fact}
use Rattle.node_journal.specs.Append.{is_kept}
use Rattle.node_log.specs.Packets.{all_sealed}
use Rattle.node_log.specs.Views.{HasCause, Made, MayHaveWritten, View, Wrote, went_down}
use Rattle.run_model.specs.declared.trace.Fared.TheVariants.{Cut, Fault}
use Rattle.run_model.specs.World.{device_of}
use Rattle.tier_model.specs.declared.turn.Fault.{Fault as NodeFault}
use Rattle.tier_model.specs.declared.turn.Fault.TheVariants as faults
use Rattle.tier_model.specs.declared.turn.Turn.{Turn as Answer}
use Rattle.tier_model.specs.Moves.{Move, Packet}
use Rattle.tier_nodes.proofs.Journals.{cut_fits, cut_within, journal-with, more_within, open_with, or_is, past_writes, written_all}
use Rattle.tier_nodes.proofs.Seated.{armed_has, down_disk, down_node, no_doubt, sure_alone, up_open, up_placed, up_seat}
use Rattle.tier_nodes.proofs.Stops.{armed_content, armed_stopped, armed_tells, asked_well, cut_failed, cut_ill, drop_ill, fate_full, fate_is}
use Rattle.tier_nodes.proofs.Stops.{rest_content, unmet}
use Rattle.tier_nodes.specs.Arming.{CanStop, armed_with, asked_of, at_rest, doubts, fared_by, fate_of}
use Rattle.tier_nodes.specs.Calling.{Came, HadMemory}
use Rattle.tier_nodes.specs.declared.arming.StopAt.{StopAt}
use Rattle.tier_nodes.specs.Moving.{IsMoveOf}
use Rattle.tier_nodes.specs.Standing.{IsDiskOf, IsDoubted, IsNodeOf, Seat, journal_of, mode_in, mode_of}

-- A call made this move, at a node that is up and stands for one of the definition, on its disk, which was armed
-- before.
pub record Call {S : Type 0} (IsIn : S → Type 0) (log_in : S → LogState AnyValue) (node : Node S Fact) (old new : Seat S) (disk called : DiskState)
    (stop : Option StopAt) (s : S) (move : Move S) (before after : List (End × List ℕ)) (answer : Result Answer NodeFault) : Type 0 where
  pub is : IsNodeOf log_in node old
  pub on : IsDiskOf node disk
  pub up : node.mode ≡ Up s
  pub stops : CanStop stop
  pub goes : IsMoveOf IsIn log_in old.view.tier old.view.me s move
  pub made : IfOk answer (λ a. Made old.view new.view before after move a)
  pub wrote : OnOk answer (Wrote (armed_with stop disk) called old.view.place new.view.place move.facts)
  pub down : OnErr answer (new.view ≡ went_down old.view)
  pub nothing_sent : OnErr answer (after ≡ before)
  pub may_have : OnErr answer (MayHaveWritten (armed_with stop disk) called old.view.place move.facts)
  pub cause : (fault : NodeFault) → answer ≡ Err fault → HasCause (armed_with stop disk) called old.view.place move.facts fault
  pub later : Later (armed_with stop disk) called
  pub gone : new.gone ≡ old.gone
  pub doubt : new.doubt ≡ doubts answer called.stopped

-- THE NODE AFTER A MOVE, AND WHAT IT SENDS

moved_well : {S : Type 0} (node : Node S Fact) (d : Device) (v : Move S) → is_well d v.facts ≡ true
    → moved node d v.state v.facts ≡ stands (Up v.state) (recorded node.records v.facts)
moved_well node d v e = cond-true (is_well d v.facts) (stands (Up v.state) (recorded node.records v.facts)) (failed node v.facts d) e

moved_ill : {S : Type 0} (node : Node S Fact) (d : Device) (v : Move S) → is_well d v.facts ≡ false → moved node d v.state v.facts ≡ failed node v.facts d
moved_ill node d v e = cond-false (is_well d v.facts) (stands (Up v.state) (recorded node.records v.facts)) (failed node v.facts d) e

sent_well : {S : Type 0} (d : Device) (v : Move S) → is_well d v.facts ≡ true → sent d v.facts v.sends ≡ v.sends
sent_well d v e = cond-true (is_well d v.facts) v.sends [] e

sent_ill : {S : Type 0} (d : Device) (v : Move S) → is_well d v.facts ≡ false → sent d v.facts v.sends ≡ []
sent_ill d v e = cond-false (is_well d v.facts) v.sends [] e

-- nothing is added where nothing is sent
unsent : (before after : List (End × List ℕ)) (packets : List Packet) → after ≡ before → packets ≡ [] → after ≡ before ++ all_sealed packets
unsent before after packets e f = e ∙ sym (append-nil before) ∙ sym (ap (λ z. before ++ all_sealed z) f)

module _ {S : Type 0} (IsIn : S → Type 0) (log_in : S → LogState AnyValue) (node : Node S Fact) (old new : Seat S) (disk called : DiskState)
    (s : S) (v : Move S) (before after : List (End × List ℕ)) where
  -- the node was in no doubt, and knew its journal's length
  placed : IsNodeOf log_in node old → node.mode ≡ Up s → (old.view.place + 1 ≡ journal_of node.records) × (old.doubt ≡ false)
  placed k e = up_placed log_in node old k s e

  -- the facts fit behind its records
  in_place : IsNodeOf log_in node old → node.mode ≡ Up s → FactsFit old.view.tier (open_at (log_in s)) v.facts
      → FactsFit old.view.tier (open_after_all 0 (all_facts node.records)) v.facts
  in_place k e h = subst (λ z. FactsFit old.view.tier z v.facts) (up_open log_in node old k s e) h

  not_gone : IsNodeOf log_in node old → node.mode ≡ Up s → new.gone ≡ old.gone → new.gone ≡ false
  not_gone k e g = g ∙ (up_seat old s (sym k.mode ∙ e)).0

  tells : (stop : Option StopAt) → IsDiskOf node disk → (armed_with stop disk).tells ≡ true
  tells stop d = armed_tells stop disk ∙ d.lists.tells

  -- it went down, and is not gone
  down_mode : new.gone ≡ false → new.view ≡ went_down old.view → mode_of new ≡ Down
  down_mode g e = ap (λ z. mode_in z new.view.up) g ∙ ap (λ (z : View S). mode_in false z.up) e

  -- THE MOVE IS MADE

  came_well : (stop : Option StopAt) (answer : Answer) (device : Device) → is_well device v.facts ≡ true
      → Call IsIn log_in node old new disk called stop s v before after (Ok answer)
      → Came log_in new (at_rest called) before after node device v (Ok answer)
  came_well stop answer device well k = record {
    is = subst (λ z. IsNodeOf log_in z new) (sym is_up) up_node;
    on = subst (λ z. IsDiskOf z (at_rest called)) (sym is_up) up_disk;
    sends = k.made.packets ∙ ap (λ z. before ++ all_sealed z) (sym (sent_well device v well));
    out = (well, k.made.answer_is);
  }
    where
      recs : List (List Fact)
      recs = recorded node.records v.facts

      is_up : moved node device v.state v.facts ≡ stands (Up v.state) recs
      is_up = moved_well node device v well

      past : is_past (journal_of node.records) v.facts ≡ false
      past = subst (λ z. is_past z v.facts ≡ false) (placed k.is k.up).0 k.wrote.within

      up : new.view.up ≡ Some v.state
      up = ap (λ (z : View S). z.up) k.made.node

      tier : new.view.tier ≡ old.view.tier
      tier = ap (λ (z : View S). z.tier) k.made.node

      place : new.view.place + 1 ≡ journal_of recs
      place = k.wrote.long ∙ ap (λ z. length_with z v.facts) (placed k.is k.up).0 ∙ sym (journal-with node.records v.facts)

      opened : open_at (log_in v.state) ≡ open_after_all 0 (all_facts recs)
      opened = k.goes.opens ∙ ap (λ z. open_after_all z v.facts) (up_open log_in node old k.is s k.up) ∙ sym (open_with node.records v.facts)

      fits : Fit old.view.tier recs
      fits = fit_recorded old.view.tier node.records v.facts k.is.fits.0 (in_place k.is k.up k.goes.facts)

      up_node : IsNodeOf log_in (stands (Up v.state) recs) new
      up_node = record {
        mode = sym (ap (λ z. mode_in z new.view.up) (not_gone k.is k.up k.gone) ∙ ap (mode_in false) up);
        placed = (place, k.doubt);
        doubted = subst (λ b. IsDoubted b recs []) (sym k.doubt) refl;
        within = (more_within node.records v.facts k.is.within.0 past, tt);
        fits = subst (λ t. EachFits t (recs ∷ [])) (sym tier) (fits, tt);
        opened = opened;
      }

      has : HasFacts recs (at_rest called) new.view.place
      has = same_facts recs called (at_rest called) new.view.place
          (k.wrote.records node.records (tells stop k.on) (armed_has log_in node old k.is disk stop s k.on k.up)) (rest_content called)

      up_disk : IsDiskOf (stands (Up v.state) recs) (at_rest called)
      up_disk = record {
        rest = (refl, refl);
        lists = having_stands recs (at_rest called) new.view.place (k.later.tells ∙ tells stop k.on) has;
        ready = (new.view.place, has);
      }

  came_ok : (stop : Option StopAt) (answer : Answer) → Call IsIn log_in node old new disk called stop s v before after (Ok answer)
      → Came log_in new (at_rest called) before after node (fate_of (asked_of stop) node.records v.facts) v (Ok answer)
  came_ok stop answer k =
      let past : is_past (journal_of node.records) v.facts ≡ false = subst (λ z. is_past z v.facts ≡ false) (placed k.is k.up).0 k.wrote.within in
      came_well stop answer (fate_of (asked_of stop) node.records v.facts)
      (subst (λ d. is_well d v.facts ≡ true) (sym (fate_is (asked_of stop) node.records v.facts past))
      (asked_well stop disk v.facts k.stops k.wrote.unstopped)) k

  -- and the armed stop was not met
  ok_unmet : (stop : Option StopAt) (answer : Answer) → Call IsIn log_in node old new disk called stop s v before after (Ok answer) → called.stopped ≡ false
  ok_unmet stop answer k = unmet stop disk called v.facts k.stops k.on.rest.0 k.on.rest.1 k.wrote.unstopped k.wrote.untouched k.later

  -- THE JOURNAL IS FULL

  came_full : (stop : Option StopAt) (size : ℕ) → Call IsIn log_in node old new disk called stop s v before after (Err (faults.JournalFull size))
      → Came log_in new (at_rest called) before after node (fate_of (asked_of stop) node.records v.facts) v (Err (faults.JournalFull size))
  came_full stop size k = record {
    is = subst (λ z. IsNodeOf log_in z new) (sym is_down) is;
    on = subst (λ z. IsDiskOf z (at_rest called)) (sym is_down) (down_disk node.records [] called same);
    sends = unsent before after _ k.nothing_sent (sent_ill dev v ill);
    out = (ill, past, why.1 ∙ ap (λ z. min (length_with z v.facts) (2 ^ 64 - 1)) (placed k.is k.up).0);
  }
    where
      dev : Device
      dev = fate_of (asked_of stop) node.records v.facts

      why : HasCause (armed_with stop disk) called old.view.place v.facts (faults.JournalFull size)
      why = k.cause (faults.JournalFull size) refl

      past : is_past (journal_of node.records) v.facts ≡ true
      past = subst (λ z. is_past z v.facts ≡ true) (placed k.is k.up).0 why.0

      lost : dev ≡ CutDrop
      lost = fate_full (asked_of stop) node.records v.facts past

      ill : is_well dev v.facts ≡ false
      ill = subst (λ d. is_well d v.facts ≡ false) (sym lost) (drop_ill v.facts (past_writes (journal_of node.records) v.facts past))

      is_down : moved node dev v.state v.facts ≡ stands Down node.records
      is_down = moved_ill node dev v ill ∙ ap (failed node v.facts) lost

      alone : node.others ≡ []
      alone = sure_alone log_in node old k.is (placed k.is k.up).1

      tier : new.view.tier ≡ old.view.tier
      tier = ap (λ (z : View S). z.tier) k.down

      is : IsNodeOf log_in (stands Down node.records) new
      is = down_node log_in node.records [] new (down_mode (not_gone k.is k.up k.gone) k.down) (no_doubt new.doubt _ k.doubt)
          (subst (λ b. IsDoubted b node.records []) (sym k.doubt) refl) (k.is.within.0, tt)
          (subst (λ t. EachFits t (node.records ∷ [])) (sym tier) (k.is.fits.0, tt))

      same : StandsFor (node.records ∷ []) called
      same = subst (StandsFor (node.records ∷ [])) (sym why.2)
          (same_stands (node.records ∷ []) disk (armed_with stop disk) (subst (λ z. StandsFor (node.records ∷ z) disk) alone k.on.lists)
          (armed_content stop disk) (armed_tells stop disk))

  full_unmet : (stop : Option StopAt) (size : ℕ) → Call IsIn log_in node old new disk called stop s v before after (Err (faults.JournalFull size))
      → called.stopped ≡ false
  full_unmet stop size k = ap (λ (d : DiskState). d.stopped) (k.cause (faults.JournalFull size) refl).2 ∙ armed_stopped stop disk ∙ k.on.rest.1

  -- THE DISK STOPPED WHERE THAT WAS ARMED

  came_cut : (at : StopAt) → called.stopped ≡ true → Call IsIn log_in node old new disk called (Some at) s v before after (Err faults.Disk)
      → Came log_in new (at_rest called) before after node (fate_of (Cut at.nth at.keep) node.records v.facts) v (Err faults.Disk)
  came_cut at met k = record {
    is = subst (λ z. IsNodeOf log_in z new) (sym is_down) is;
    on = subst (λ z. IsDiskOf z (at_rest called)) (sym is_down) (down_disk left [] called cut.stands);
    sends = unsent before after _ k.nothing_sent (sent_ill dev v ill);
    out = (ill, past);
  }
    where
      dev : Device
      dev = fate_of (Cut at.nth at.keep) node.records v.facts

      why : HasCause (armed_with (Some at) disk) called old.view.place v.facts faults.Disk
      why = k.cause faults.Disk refl

      cut : IsCut node.records v.facts (armed_with (Some at) disk) called
      cut = k.may_have.stop k.on.rest.1 met node.records (tells (Some at) k.on) (armed_has log_in node old k.is disk (Some at) s k.on k.up)

      past : is_past (journal_of node.records) v.facts ≡ false
      past = subst (λ z. is_past z v.facts ≡ false) (placed k.is k.up).0 why.0

      is_cut : dev ≡ device_of (Cut at.nth at.keep)
      is_cut = fate_is (Cut at.nth at.keep) node.records v.facts past

      ill : is_well dev v.facts ≡ false
      ill = subst (λ d. is_well d v.facts ≡ false) (sym is_cut) (cut_ill at.nth at.keep v.facts why.1)

      left : List (List Fact)
      left = cond (is_kept at.nth at.keep) (recorded node.records v.facts) node.records

      is_down : moved node dev v.state v.facts ≡ stands Down left
      is_down = moved_ill node dev v ill ∙ ap (failed node v.facts) is_cut ∙ cut_failed node v.facts at.nth at.keep

      sure : new.doubt ≡ false
      sure = k.doubt ∙ ap not met

      tier : new.view.tier ≡ old.view.tier
      tier = ap (λ (z : View S). z.tier) k.down

      is : IsNodeOf log_in (stands Down left) new
      is = down_node log_in left [] new (down_mode (not_gone k.is k.up k.gone) k.down) (no_doubt new.doubt _ sure)
          (subst (λ b. IsDoubted b left []) (sym sure) refl)
          (cut_within node.records v.facts (is_kept at.nth at.keep) k.is.within.0 past, tt)
          (subst (λ t. EachFits t (left ∷ [])) (sym tier)
          (cut_fits old.view.tier node.records v.facts (is_kept at.nth at.keep) k.is.fits.0 (in_place k.is k.up k.goes.facts), tt))

  -- THE DISK FAILED

  came_fault : (stop : Option StopAt) → called.stopped ≡ false → Call IsIn log_in node old new disk called stop s v before after (Err faults.Disk)
      → Came log_in new (at_rest called) before after node (fate_of Fault node.records v.facts) v (Err faults.Disk)
  came_fault stop met k = record {
    is = subst (λ z. IsNodeOf log_in z new) (sym is_down) is;
    on = subst (λ z. IsDiskOf z (at_rest called)) (sym is_down)
        (down_disk node.records (recs ∷ []) called (k.may_have.one_of_two node.records (tells stop k.on)
        (armed_has log_in node old k.is disk stop s k.on k.up)));
    sends = unsent before after _ k.nothing_sent (sent_ill dev v ill);
    out = (ill, past);
  }
    where
      dev : Device
      dev = fate_of Fault node.records v.facts

      recs : List (List Fact)
      recs = recorded node.records v.facts

      why : HasCause (armed_with stop disk) called old.view.place v.facts faults.Disk
      why = k.cause faults.Disk refl

      past : is_past (journal_of node.records) v.facts ≡ false
      past = subst (λ z. is_past z v.facts ≡ false) (placed k.is k.up).0 why.0

      is_fault : dev ≡ WasFault
      is_fault = fate_is Fault node.records v.facts past

      ill : is_well dev v.facts ≡ false
      ill = ap (λ d. is_well d v.facts) is_fault

      is_down : moved node dev v.state v.facts ≡ record { mode = Down; records = node.records; others = recs ∷ [] }
      is_down = moved_ill node dev v ill ∙ ap (failed node v.facts) is_fault
          ∙ ap (λ z. record { mode = Down; records = node.records; others = z }) (or_is node.records v.facts why.1)

      place : new.view.place + 1 ≡ journal_of node.records
      place = ap (λ (z : View S). z.place + 1) k.down ∙ (placed k.is k.up).0

      doubt : new.doubt ≡ true
      doubt = k.doubt ∙ ap not met

      tier : new.view.tier ≡ old.view.tier
      tier = ap (λ (z : View S). z.tier) k.down

      more : (facts : List Fact) × (writes facts ≡ true) × (recs ∷ [] ≡ (node.records ++ facts ∷ []) ∷ [])
      more = (v.facts, why.1, ap (λ z. z ∷ []) (written_all node.records v.facts why.1))

      is : IsNodeOf log_in (record { mode = Down; records = node.records; others = recs ∷ [] }) new
      is = down_node log_in node.records (recs ∷ []) new (down_mode (not_gone k.is k.up k.gone) k.down) (λ e. place)
          (subst (λ b. IsDoubted b node.records (recs ∷ [])) (sym doubt) more)
          (k.is.within.0, (more_within node.records v.facts k.is.within.0 past, tt))
          (subst (λ t. EachFits t (node.records ∷ recs ∷ [])) (sym tier)
          (k.is.fits.0, (fit_recorded old.view.tier node.records v.facts k.is.fits.0 (in_place k.is k.up k.goes.facts), tt)))

  -- BY ITS ANSWER

  pub came : (stop : Option StopAt) (answer : Result Answer NodeFault) (met : Bool) → called.stopped ≡ met → HadMemory answer
      → Call IsIn log_in node old new disk called stop s v before after answer
      → Came log_in new (at_rest called) before after node (fate_of (fared_by stop answer met) node.records v.facts) v answer
  came stop (Ok answer) met e m k = came_ok stop answer k
  came stop (Err (faults.JournalFull size)) met e m k = came_full stop size k
  came stop (Err faults.Memory) met e m k = absurd m
  came None (Err faults.Disk) true e m k = absurd (let f : called.stopped ≡ false = (k.later.free k.on.rest.0 k.on.rest.1).1 in cc)
  came (Some at) (Err faults.Disk) true e m k = came_cut at e k
  came stop (Err faults.Disk) false e m k = came_fault stop e k
  came stop (Err (faults.BadRecord at)) met e m k = absurd (k.cause (faults.BadRecord at) refl)
