-- What a call of a node that is up comes to, by its answer.
use Rattle.std.proofs.Common.{◌≡◌, ℕ, ◌+◌, ◌≤◌, Bool, true, false, cond, List, [], ◌∷◌, ◌++◌, refl, sym, ap, ◌∙◌, subst}
use Rattle.std.proofs.Common.{inl, inr, arith, Option, Some, None, Result, Ok, Err}
use Rattle.std.specs.Prelude.{nat_lt, nat_le, map, ◌⊎◌, ◌&&◌}
use Rattle.std.proofs.lemmas.Bool.{cond_both, ltb-true, ltb-false, leb-true, leb-false}
use Rattle.aeg_base.specs.declared.limits.TheConstants.{JOURNAL_BYTES}
use Rattle.aeg_base.specs.declared.names.Tier.{Tier}
use Rattle.aeg_base.specs.declared.names.End.{End}
use Rattle.aeg_disk.specs.Disk.{DiskState, Rose}
use Rattle.fact_journal.specs.Standing.{HasFacts, StandsFor}
use Rattle.fact_journal.specs.Fitting.{all_facts, open_after_all}
use Rattle.fact_journal.specs.Calls.{length_with, is_past, old_or_new, IsCut}
use Rattle.fact_journal.proofs.Standing.{having_stands, same_stands, same_facts}
use Rattle.node_journal.specs.Append.{is_kept}
use Rattle.log_model.specs.Nodes.{Node as NodeOf, Device, recorded, stands, or_written, failed, writes, is_well}
use Rattle.log_model.specs.Nodes.Mode.{Up, Down}
use Rattle.log_model.specs.Nodes.Device.{CutKeep, CutDrop, Fault as WasFault}
use Rattle.log_values.specs.declared.fact.Fact.{Fact}
use Rattle.tier_model.specs.declared.turn.Turn.{Turn as Answer}
use Rattle.tier_model.specs.declared.turn.Fault.{Fault as NodeFault}
use Rattle.tier_model.specs.declared.turn.Fault.TheVariants as faults
use Rattle.tier_model.specs.Moves.{Move}
use Rattle.run_model.specs.declared.trace.Fared.TheVariants.{Fine, Cut, Fault}
use Rattle.run_model.specs.World.{device_of, fate, unwritten}
use Rattle.run_model.specs.BookingRuns.{config}
use Rattle.world.specs.declared.parts.arming.StopAt.{StopAt}
use Rattle.world.specs.Arming.{asked_of, armed_with, fared_by, at_rest}
use Rattle.world.specs.Disks.{IsDiskOf}
use Rattle.world.specs.Parts.{NodePart, StandIn, AllStand, AllReach, AreFit, sealed}
use Rattle.world.specs.Standing.{mode_by, journal_of, IsPlaced, IsDoubted, AllWithin, IsOpen, IsNode}
use Rattle.world.specs.Telling.{HadMemory}
use Rattle.world.proofs.Calls.InWorlds.{journal-with, open_with, more_within, past_writes, written_all, stand_more, stand_both}
use Rattle.world.proofs.Calls.InWorlds.{stand_cut, armed_content, rest_content, armed_stopped, armed_faults, armed_later}
use Rattle.world.proofs.Calls.InWorlds.{up_placed, sure_alone, up_open, up_has, up_stand, fate_is, fate_full, is_ok, ill_by}
use Rattle.world.proofs.Calls.InWorlds.{moved_by, moved_well, moved_ill, sent_by, sent_well, sent_ill, no_fit, no_reach}
use Rattle.world.proofs.Calls.InWorlds.{sure_if, Came, Call, asked_can, no_cause, asked_well, unmet}

-- the node's own facts fit behind its records
in_place : {S T : Type 0} (t : Tier) (whole : S → T) (open_of : S → ℕ) (node : NodeOf T Fact) (part : NodePart S)
    (s : S) (facts : List Fact) → IsNode t whole open_of node part → part.mode ≡ Up s → StandIn t (open_of s) facts
    → StandIn t (open_after_all 0 (all_facts node.records)) facts
in_place t whole open_of node part s facts k e h = subst (λ z. StandIn t z facts) (up_open t whole open_of node part s k e) h

armed_has : {S T : Type 0} (t : Tier) (whole : S → T) (open_of : S → ℕ) (node : NodeOf T Fact) (part : NodePart S)
    (disk : DiskState) (stop : Option StopAt) (s : S) → IsNode t whole open_of node part → IsDiskOf node disk
    → part.mode ≡ Up s → HasFacts node.records (armed_with stop disk) part.place
armed_has t whole open_of node part disk stop s k d e = same_facts node.records disk (armed_with stop disk) part.place
    (up_has t whole open_of node part disk s k d e) (armed_content stop disk).0

armed_tells : {T : Type 0} (node : NodeOf T Fact) (disk : DiskState) (stop : Option StopAt) → IsDiskOf node disk → (armed_with stop disk).tells ≡ true
armed_tells node disk stop d = (armed_content stop disk).1 ∙ d.lists.tells

-- THE MOVE IS MADE

came_ok : {S T : Type 0} (t : Tier) (whole : S → T) (open_of : S → ℕ) (u depth : ℕ) (node : NodeOf T Fact)
    (part new : NodePart S) (disk called : DiskState) (stop : Option StopAt) (s : S) (v : Move T)
    (after : List (End × List ℕ)) (answer : Answer)
    → Call t whole open_of u node part new disk called stop s v after (Ok answer)
    → Came t whole open_of u node new disk (at_rest called) (fate (config u depth) (asked_of stop) node.records v.facts)
    (asked_of stop) (asked_of stop) false v after (Ok answer)
came_ok {S} {T} t whole open_of u depth node part new disk called stop s v after answer k = record {
  is = subst (λ z. IsNode t whole open_of z new) (sym is_up) up_node;
  on = subst (λ z. IsDiskOf z (at_rest called)) (sym is_up) up_disk;
  sends = k.row.4 ∙ ap (map sealed) (sym all);
  fit = subst AreFit (sym all) k.row.5;
  reach = subst (AllReach u) (sym all) k.reach;
  out = (well, k.row.6);
  how = record { fares = inl refl; can = asked_can stop k.stops; cause = no_cause stop _; later = armed_later stop disk called k.later };
}
  where
    recs : List (List Fact)
    recs = recorded node.records v.facts

    placed : (part.place + 1 ≡ journal_of node.records) × (part.doubt ≡ false)
    placed = up_placed t whole open_of node part s k.is k.up

    past : is_past (journal_of node.records) v.facts ≡ false
    past = subst (λ z. is_past z v.facts ≡ false) placed.0 k.row.0

    well : is_well (fate (config u depth) (asked_of stop) node.records v.facts) v.facts ≡ true
    well = asked_well u depth stop disk node.records v.facts k.stops past k.wrote.1

    is_up : moved_by node (fate (config u depth) (asked_of stop) node.records v.facts) v ≡ stands (Up v.state) recs
    is_up = moved_well node (fate (config u depth) (asked_of stop) node.records v.facts) v well

    all : sent_by (fate (config u depth) (asked_of stop) node.records v.facts) v ≡ v.sends
    all = sent_well (fate (config u depth) (asked_of stop) node.records v.facts) v well

    sure : new.doubt ≡ false
    sure = k.row.3 ∙ placed.1

    place : new.place + 1 ≡ journal_of recs
    place = k.row.2 ∙ ap (λ z. length_with z v.facts) placed.0 ∙ sym (journal-with node.records v.facts)

    fits : StandIn t (open_after_all 0 (all_facts node.records)) v.facts
    fits = in_place t whole open_of node part s v.facts k.is k.up k.fits

    opened : open_of k.row.1.0 ≡ open_after_all 0 (all_facts recs)
    opened = k.opens k.row.1.0 k.row.1.2
        ∙ ap (λ z. open_after_all z v.facts) (up_open t whole open_of node part s k.is k.up) ∙ sym (open_with node.records v.facts)

    up_node : IsNode t whole open_of (stands (Up v.state) recs) new
    up_node = record {
      mode = ap Up (sym k.row.1.2) ∙ sym (ap (mode_by whole) k.row.1.1);
      placed = subst (λ m. IsPlaced m new.place new.doubt recs) (sym k.row.1.1) (place, sure);
      doubted = subst (λ b. IsDoubted b recs []) (sym sure) refl;
      within = (more_within node.records v.facts k.is.within.0 past, tt);
      stand = stand_more t node.records v.facts (up_stand t whole open_of node part k.is) fits;
      opened = subst (λ m. IsOpen open_of m recs) (sym k.row.1.1) opened;
    }

    has : HasFacts recs (at_rest called) new.place
    has = same_facts recs called (at_rest called) new.place
        (k.wrote.0 node.records (armed_tells node disk stop k.on)
        (armed_has t whole open_of node part disk stop s k.is k.on k.up)) (rest_content called)

    up_disk : IsDiskOf (stands (Up v.state) recs) (at_rest called)
    up_disk = record {
      rest = (refl, refl);
      lists = having_stands recs (at_rest called) new.place (k.later.tells ∙ armed_tells node disk stop k.on) has;
      ready = (new.place, has);
    }

-- and the armed stop was not met
ok_unmet : {S T : Type 0} (t : Tier) (whole : S → T) (open_of : S → ℕ) (u : ℕ) (node : NodeOf T Fact)
    (part new : NodePart S) (disk called : DiskState) (stop : Option StopAt) (s : S) (v : Move T)
    (after : List (End × List ℕ)) (answer : Answer)
    → Call t whole open_of u node part new disk called stop s v after (Ok answer) → called.stopped ≡ false
ok_unmet t whole open_of u node part new disk called stop s v after answer k = unmet stop disk called v.facts k.stops
    k.on.rest.1 k.wrote.1 k.wrote.2 k.later k.on.rest.0

-- THE NODE GOES DOWN

-- it knows its place, or is in no doubt
pub down_node : {S T : Type 0} (t : Tier) (whole : S → T) (open_of : S → ℕ) (records : List (List Fact))
    (others : List (List (List Fact))) (new : NodePart S) → new.mode ≡ Down
    → (new.doubt ≡ true → new.place + 1 ≡ journal_of records) → IsDoubted new.doubt records others
    → AllWithin (records ∷ others) → AllStand t (records ∷ others)
    → IsNode t whole open_of (record { mode = Down; records = records; others = others }) new
down_node t whole open_of records others new m p d l a = record {
  mode = sym (ap (mode_by whole) m);
  placed = subst (λ z. IsPlaced z new.place new.doubt records) (sym m) p;
  doubted = d;
  within = l;
  stand = a;
  opened = subst (λ z. IsOpen open_of z records) (sym m) tt;
}

down_disk : {T : Type 0} (records : List (List Fact)) (others : List (List (List Fact))) (disk : DiskState)
    → StandsFor (records ∷ others) disk
    → IsDiskOf {S = T} (record { mode = Down; records = records; others = others }) (at_rest disk)
down_disk records others disk h = record {
  rest = (refl, refl);
  lists = same_stands (records ∷ others) disk (at_rest disk) h (rest_content disk) refl;
  ready = tt;
}

no_doubt : (doubt : Bool) (P : Type 0) → doubt ≡ false → doubt ≡ true → P
no_doubt doubt P e f = absurd (cc)

-- the journal is full
came_full : {S T : Type 0} (t : Tier) (whole : S → T) (open_of : S → ℕ) (u depth size : ℕ) (node : NodeOf T Fact)
    (part new : NodePart S) (disk called : DiskState) (stop : Option StopAt) (s : S) (v : Move T) (after : List (End × List ℕ))
    → Call t whole open_of u node part new disk called stop s v after (Err (faults.JournalFull size))
    → Came t whole open_of u node new disk (at_rest called) (fate (config u depth) (asked_of stop) node.records v.facts)
    (asked_of stop) (asked_of stop) false v after (Err (faults.JournalFull size))
came_full {S} {T} t whole open_of u depth size node part new disk called stop s v after k = record {
  is = subst (λ z. IsNode t whole open_of z new) (sym is_down) is;
  on = subst (λ z. IsDiskOf z (at_rest called)) (sym is_down) on;
  sends = k.row.4 ∙ ap (map sealed) (sym none);
  fit = subst AreFit (sym none) no_fit;
  reach = subst (AllReach u) (sym none) (no_reach u);
  out = (ill, past);
  how = record { fares = inl refl; can = asked_can stop k.stops; cause = no_cause stop _; later = armed_later stop disk called k.later };
}
  where
    dev : Device
    dev = fate (config u depth) (asked_of stop) node.records v.facts

    placed : (part.place + 1 ≡ journal_of node.records) × (part.doubt ≡ false)
    placed = up_placed t whole open_of node part s k.is k.up

    past : is_past (journal_of node.records) v.facts ≡ true
    past = subst (λ z. is_past z v.facts ≡ true) placed.0 k.row.0

    lost : dev ≡ CutDrop
    lost = fate_full u depth (asked_of stop) node.records v.facts past

    ill : is_well dev v.facts ≡ false
    ill = ill_by dev CutDrop v.facts (past_writes (journal_of node.records) v.facts past) lost refl

    is_down : moved_by node dev v ≡ stands Down node.records
    is_down = moved_ill node dev v ill ∙ ap (failed node v.facts) lost

    none : sent_by dev v ≡ []
    none = sent_ill dev v ill

    sure : new.doubt ≡ false
    sure = k.row.3 ∙ placed.1

    alone : node.others ≡ []
    alone = sure_alone t whole open_of node part k.is placed.1

    is : IsNode t whole open_of (stands Down node.records) new
    is = down_node t whole open_of node.records [] new k.row.1 (no_doubt new.doubt _ sure)
        (subst (λ b. IsDoubted b node.records []) (sym sure) refl) (k.is.within.0, tt) (up_stand t whole open_of node part k.is)

    same : StandsFor (node.records ∷ []) called
    same = subst (StandsFor (node.records ∷ [])) (sym k.wrote)
        (same_stands (node.records ∷ []) disk (armed_with stop disk)
        (subst (λ z. StandsFor (node.records ∷ z) disk) alone k.on.lists) (armed_content stop disk).0 (armed_content stop disk).1)

    on : IsDiskOf {S = T} (stands Down node.records) (at_rest called)
    on = down_disk node.records [] called same

full_unmet : {S T : Type 0} (t : Tier) (whole : S → T) (open_of : S → ℕ) (u size : ℕ) (node : NodeOf T Fact)
    (part new : NodePart S) (disk called : DiskState) (stop : Option StopAt) (s : S) (v : Move T)
    (after : List (End × List ℕ))
    → Call t whole open_of u node part new disk called stop s v after (Err (faults.JournalFull size)) → called.stopped ≡ false
full_unmet t whole open_of u size node part new disk called stop s v after k = ap (λ (d : DiskState). d.stopped) k.wrote ∙ armed_stopped stop disk ∙ k.on.rest.1

-- THE DISK STOPPED WHERE THAT WAS ARMED

kept_is : (nth : ℕ) (keep : Bool) → (keep && nat_le 3 nth) ≡ is_kept nth keep
kept_is nth keep = go keep (nat_le 3 nth) (nat_lt 2 nth) refl refl
  where
    go : (k a b : Bool) → nat_le 3 nth ≡ a → nat_lt 2 nth ≡ b → (k && a) ≡ (b && k)
    go false true true e f = refl
    go false true false e f = refl
    go false false true e f = refl
    go false false false e f = refl
    go true true true e f = refl
    go true false false e f = refl
    go true true false e f = absurd (omega (arith, leb-true 3 nth e, ltb-false 2 nth f))
    go true false true e f = absurd (omega (arith, leb-false 3 nth e, ltb-true 2 nth f))

cut_failed : {T : Type 0} (node : NodeOf T Fact) (facts : List Fact) (nth : ℕ) (keep : Bool)
    → failed node facts (device_of (Cut nth keep))
    ≡ stands Down (cond (is_kept nth keep) (recorded node.records facts) node.records)
cut_failed {T} node facts nth keep = subst (λ b. failed node facts (device_of (Cut nth keep))
    ≡ stands Down (cond b (recorded node.records facts) node.records)) (kept_is nth keep) (by (keep && nat_le 3 nth))
  where
    by : (b : Bool) → failed node facts (cond b CutKeep CutDrop) ≡ stands Down (cond b (recorded node.records facts) node.records)
    by true = refl
    by false = refl

cut_ill : (nth : ℕ) (keep : Bool) → is_ok (device_of (Cut nth keep)) ≡ false
cut_ill nth keep = cond_both (keep && nat_le 3 nth) CutKeep CutDrop (λ d. is_ok d ≡ false) (λ e. refl) (λ e. refl)

cut_within : (records : List (List Fact)) (facts : List Fact) (kept : Bool) → journal_of records ≤ JOURNAL_BYTES
    → is_past (journal_of records) facts ≡ false → journal_of (cond kept (recorded records facts) records) ≤ JOURNAL_BYTES
cut_within records facts true l e = more_within records facts l e
cut_within records facts false l e = l

came_cut : {S T : Type 0} (t : Tier) (whole : S → T) (open_of : S → ℕ) (u depth : ℕ) (node : NodeOf T Fact)
    (part new : NodePart S) (disk called : DiskState) (stop : Option StopAt) (s : S) (v : Move T)
    (after : List (End × List ℕ)) → called.stopped ≡ true
    → Call t whole open_of u node part new disk called stop s v after (Err faults.Disk)
    → Came t whole open_of u node new disk (at_rest called) (fate (config u depth) (asked_of stop) node.records v.facts)
    (asked_of stop) (asked_of stop) true v after (Err faults.Disk)
came_cut {S} {T} t whole open_of u depth node part new disk called None s v after met k = absurd (omega (arith, cut.first, k.on.rest.0))
  where
    cut : IsCut node.records v.facts disk called
    cut = (k.wrote.2 node.records k.on.lists.tells (up_has t whole open_of node part disk s k.is k.on k.up)).1 k.on.rest.1 met
came_cut {S} {T} t whole open_of u depth node part new disk called (Some at) s v after met k = record {
  is = subst (λ z. IsNode t whole open_of z (sure_if true new)) (sym is_down) is;
  on = subst (λ z. IsDiskOf z (at_rest called)) (sym is_down) (down_disk left [] called cut.stands);
  sends = k.row.4 ∙ ap (map sealed) (sym none);
  fit = subst AreFit (sym none) no_fit;
  reach = subst (AllReach u) (sym none) (no_reach u);
  out = (ill, past, refl);
  how = record { fares = inl refl; can = asked_can (Some at) k.stops; cause = no_cause (Some at) _; later = armed_later (Some at) disk called k.later };
}
  where
    dev : Device
    dev = fate (config u depth) (Cut at.nth at.keep) node.records v.facts

    cut : IsCut node.records v.facts (armed_with (Some at) disk) called
    cut = (k.wrote.2 node.records (armed_tells node disk (Some at) k.on)
        (armed_has t whole open_of node part disk (Some at) s k.is k.on k.up)).1 k.on.rest.1 met

    placed : (part.place + 1 ≡ journal_of node.records) × (part.doubt ≡ false)
    placed = up_placed t whole open_of node part s k.is k.up

    past : is_past (journal_of node.records) v.facts ≡ false
    past = subst (λ z. is_past z v.facts ≡ false) placed.0 k.row.0

    is_cut : dev ≡ device_of (Cut at.nth at.keep)
    is_cut = fate_is u depth (Cut at.nth at.keep) node.records v.facts k.wrote.0 past

    ill : is_well dev v.facts ≡ false
    ill = ill_by dev (device_of (Cut at.nth at.keep)) v.facts k.wrote.0 is_cut (cut_ill at.nth at.keep)

    left : List (List Fact)
    left = cond (is_kept at.nth at.keep) (recorded node.records v.facts) node.records

    is_down : moved_by node dev v ≡ stands Down left
    is_down = moved_ill node dev v ill ∙ ap (failed node v.facts) is_cut ∙ cut_failed node v.facts at.nth at.keep

    none : sent_by dev v ≡ []
    none = sent_ill dev v ill

    is : IsNode t whole open_of (stands Down left) (sure_if true new)
    is = down_node t whole open_of left [] (sure_if true new) k.row.1 (λ e. absurd (cc)) refl
        (cut_within node.records v.facts (is_kept at.nth at.keep) k.is.within.0 past, tt)
        (stand_cut t node.records v.facts (is_kept at.nth at.keep) (up_stand t whole open_of node part k.is)
        (in_place t whole open_of node part s v.facts k.is k.up k.fits))

-- THE DISK FAILED

or_is : (records : List (List Fact)) (facts : List Fact) → writes facts ≡ true → or_written records facts ≡ recorded records facts ∷ []
or_is records [] e = absurd (cc)
or_is records (f ∷ fs) e = refl

came_fault : {S T : Type 0} (t : Tier) (whole : S → T) (open_of : S → ℕ) (u depth : ℕ) (node : NodeOf T Fact)
    (part new : NodePart S) (disk called : DiskState) (stop : Option StopAt) (s : S) (v : Move T)
    (after : List (End × List ℕ)) → called.stopped ≡ false
    → Call t whole open_of u node part new disk called stop s v after (Err faults.Disk)
    → Came t whole open_of u node new disk (at_rest called) (fate (config u depth) Fault node.records v.facts)
    (asked_of stop) Fault false v after (Err faults.Disk)
came_fault {S} {T} t whole open_of u depth node part new disk called stop s v after met k = record {
  is = subst (λ z. IsNode t whole open_of z new) (sym is_down) is;
  on = subst (λ z. IsDiskOf z (at_rest called)) (sym is_down) (down_disk node.records (recorded node.records v.facts ∷ []) called two.0);
  sends = k.row.4 ∙ ap (map sealed) (sym none);
  fit = subst AreFit (sym none) no_fit;
  reach = subst (AllReach u) (sym none) (no_reach u);
  out = (ill, past, refl);
  how = record {
    fares = inr refl;
    can = refl;
    cause = λ e. subst (λ z. Rose z called.faults) (armed_faults stop disk) (rose k.wrote.1);
    later = armed_later stop disk called k.later;
  };
}
  where
    dev : Device
    dev = fate (config u depth) Fault node.records v.facts

    rose : (called.stopped ≡ true) ⊎ Rose (armed_with stop disk).faults called.faults → Rose (armed_with stop disk).faults called.faults
    rose (inl e) = absurd (cc)
    rose (inr r) = r

    two : StandsFor (old_or_new node.records v.facts) called
        × ((armed_with stop disk).stopped ≡ false → called.stopped ≡ true
        → IsCut node.records v.facts (armed_with stop disk) called)
    two = k.wrote.2 node.records (armed_tells node disk stop k.on) (armed_has t whole open_of node part disk stop s k.is k.on k.up)

    placed : (part.place + 1 ≡ journal_of node.records) × (part.doubt ≡ false)
    placed = up_placed t whole open_of node part s k.is k.up

    past : is_past (journal_of node.records) v.facts ≡ false
    past = subst (λ z. is_past z v.facts ≡ false) placed.0 k.row.0

    is_fault : dev ≡ WasFault
    is_fault = fate_is u depth Fault node.records v.facts k.wrote.0 past

    ill : is_well dev v.facts ≡ false
    ill = ill_by dev WasFault v.facts k.wrote.0 is_fault refl

    is_down : moved_by node dev v ≡ record { mode = Down; records = node.records; others = recorded node.records v.facts ∷ [] }
    is_down = moved_ill node dev v ill ∙ ap (failed node v.facts) is_fault
        ∙ ap (λ z. record { mode = Down; records = node.records; others = z }) (or_is node.records v.facts k.wrote.0)

    none : sent_by dev v ≡ []
    none = sent_ill dev v ill

    place : new.place + 1 ≡ journal_of node.records
    place = ap (λ z. z + 1) k.row.2 ∙ placed.0

    more : (facts : List Fact) × (writes facts ≡ true) × (recorded node.records v.facts ∷ [] ≡ (node.records ++ facts ∷ []) ∷ [])
    more = (v.facts, k.wrote.0, ap (λ z. z ∷ []) (written_all node.records v.facts k.wrote.0))

    is : IsNode t whole open_of (record { mode = Down; records = node.records; others = recorded node.records v.facts ∷ [] }) new
    is = down_node t whole open_of node.records (recorded node.records v.facts ∷ []) new k.row.1 (λ e. place)
        (subst (λ b. IsDoubted b node.records (recorded node.records v.facts ∷ [])) (sym k.row.3) more) (
          k.is.within.0,
          (more_within node.records v.facts k.is.within.0 past, tt),
        )
        (stand_both t node.records v.facts (up_stand t whole open_of node part k.is) (in_place t whole open_of node part s v.facts k.is k.up k.fits))

-- BY ITS ANSWER

pub came : {S T : Type 0} (t : Tier) (whole : S → T) (open_of : S → ℕ) (u depth : ℕ) (node : NodeOf T Fact)
    (part new : NodePart S) (disk called : DiskState) (stop : Option StopAt) (met : Bool) (s : S) (v : Move T)
    (after : List (End × List ℕ)) (answer : Result Answer NodeFault) → met ≡ called.stopped → HadMemory answer
    → Call t whole open_of u node part new disk called stop s v after answer
    → Came t whole open_of u node new disk (at_rest called)
    (fate (config u depth) (fared_by stop met answer) node.records v.facts) (asked_of stop)
    (fared_by stop met answer) met v after answer
came t whole open_of u depth node part new disk called stop false s v after (Ok answer) e h k = came_ok t whole open_of
    u depth node part new disk called stop s v after answer k
came t whole open_of u depth node part new disk called stop true s v after (Ok answer) e h k = absurd
    (let f = ok_unmet t whole open_of u node part new disk called stop s v after answer k in cc)
came t whole open_of u depth node part new disk called stop false s v after (Err (faults.JournalFull size)) e h
    k = came_full t whole open_of u depth size node part new disk called stop s v after k
came t whole open_of u depth node part new disk called stop true s v after (Err (faults.JournalFull size)) e h
    k = absurd (let f = full_unmet t whole open_of u size node part new disk called stop s v after k in cc)
came t whole open_of u depth node part new disk called stop met s v after (Err faults.Memory) e h k = absurd h
came t whole open_of u depth node part new disk called stop true s v after (Err faults.Disk) e h k = came_cut t whole
    open_of u depth node part new disk called stop s v after (sym e) k
came t whole open_of u depth node part new disk called stop false s v after (Err faults.Disk) e h k = came_fault t whole
    open_of u depth node part new disk called stop s v after (sym e) k
came t whole open_of u depth node part new disk called stop met s v after (Err (faults.BadRecord at)) e h k = absurd k.row

-- A CALL THAT WRITES NOTHING

resting : (disk : DiskState) → disk.armed ≡ 0 → disk.stopped ≡ false → at_rest disk ≡ disk
resting disk a s = (λ i. record disk { stopped = sym s i; armed = sym a i })

-- it touches no disk
pub came_quiet : {S T : Type 0} (t : Tier) (whole : S → T) (open_of : S → ℕ) (u depth : ℕ) (node : NodeOf T Fact)
    (part new : NodePart S) (disk : DiskState) (s : S) (v : Move T) (after : List (End × List ℕ))
    (answer : Result Answer NodeFault) → v.facts ≡ [] → HadMemory answer
    → Call t whole open_of u node part new disk disk None s v after answer
    → Came t whole open_of u node new disk disk (unwritten node.records v.facts) Fine Fine false v after answer
came_quiet t whole open_of u depth node part new disk s v after (Ok answer) e h k =
    let r = came_ok t whole open_of u depth node part new disk disk None s v after answer k in
    let dev = fate (config u depth) Fine node.records v.facts in
    record {
      is = subst (λ z. IsNode t whole open_of z new) (moved_well node dev v r.out.0) r.is;
      on = subst (λ z. IsDiskOf (stands (Up v.state) (recorded node.records v.facts)) z)
          (resting disk k.on.rest.0 k.on.rest.1) (subst (λ z. IsDiskOf z (at_rest disk)) (moved_well node dev v r.out.0) r.on);
      sends = r.sends ∙ ap (map sealed) (sent_well dev v r.out.0);
      fit = subst AreFit (sent_well dev v r.out.0) r.fit;
      reach = subst (AllReach u) (sent_well dev v r.out.0) r.reach;
      out = (refl, r.out.1);
      how = record { fares = inl refl; can = refl; cause = λ f. absurd (cc); later = omega arith };
    }
came_quiet t whole open_of u depth node part new disk s v after (Err (faults.JournalFull size)) e h k = absurd
    (let f : writes v.facts ≡ true = past_writes (part.place + 1) v.facts k.row.0 in let g : writes v.facts
    ≡ false = ap writes e in cc)
came_quiet t whole open_of u depth node part new disk s v after (Err faults.Memory) e h k = absurd h
came_quiet t whole open_of u depth node part new disk s v after (Err faults.Disk) e h k = absurd (let f : writes v.facts
    ≡ true = k.wrote.0 in let g : writes v.facts ≡ false = ap writes e in cc)
came_quiet t whole open_of u depth node part new disk s v after (Err (faults.BadRecord at)) e h k = absurd k.row
