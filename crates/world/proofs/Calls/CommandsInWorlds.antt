-- Commands at nodes: what they make of the world, and what they print.
use Rattle.std.proofs.Common.{◌≡◌, ℕ, ◌+◌, ◌*◌, ◌<◌, ◌≤◌, Bool, true, false, List, [], ◌∷◌, refl, sym, ap, ◌∙◌, subst}
use Rattle.std.proofs.Common.{arith, Option, Some, None, Result, Ok, Err}
use Rattle.std.specs.Prelude.{map, nat_lt, slice_get, slice_set}
use Rattle.std.proofs.lemmas.Bool.{cond-true, cond-false, lt-ltb}
use Rattle.std.proofs.lemmas.List.{length-set}
use Rattle.aeg_base.specs.declared.names.Tier.{Tier}
use Rattle.aeg_base.specs.declared.names.NodeId.{NodeId}
use Rattle.aeg_base.specs.declared.names.End.{End}
use Rattle.aeg_disk.specs.Disk.{DiskState}
use Rattle.fact_journal.specs.Calls.{is_past}
use Rattle.server_model.specs.Backends.{Amounts}
use Rattle.log_model.specs.Nodes.{Mode, Node as NodeOf, put, is_well}
use Rattle.log_model.specs.Nodes.Mode.{Up}
use Rattle.log_model.specs.declared.turn.LogIdle.{LogIdle}
use Rattle.log_values.specs.declared.fact.Fact.{Fact}
use Rattle.tier_model.specs.declared.turn.Turn.{Turn as Answer}
use Rattle.tier_model.specs.declared.turn.Turn.TheVariants.{Did, Ran, Dropped, Idle as Idles}
use Rattle.tier_model.specs.declared.turn.Fault.{Fault}
use Rattle.tier_model.specs.declared.turn.Fault.TheVariants as faults
use Rattle.tier_model.specs.Moves.{Packet, Move, log_answer}
use Rattle.tier_model.specs.Kinds.{State}
use Rattle.run_model.specs.declared.trace.Fared.{Fared}
use Rattle.run_model.specs.declared.trace.Fared.TheVariants.{Fine}
use Rattle.run_model.specs.World as worlds
use Rattle.run_model.specs.World.{Fate, fate, unwritten, kind_at, with_node, moves}
use Rattle.run_model.specs.Text as texts
use Rattle.world.specs.declared.nodes.all_nodes.Nodes.{Nodes}
use Rattle.run_model.specs.BookingRuns.{config, BookingWorld}
use Rattle.world.specs.declared.parts.arming.StopAt.{StopAt}
use Rattle.world.specs.Arming.{CanStop, asked_of, fared_by}
use Rattle.world.specs.Calling.{Called}
use Rattle.world.specs.Disks.{IsDiskOf, AreDisks, AreDisksOf, first_of}
use Rattle.world.specs.Parts.{sealed, AreFit, AllReach}
use Rattle.world.specs.NodeLists.{views, up_in, KeepsElse, RowOf, MoveIn}
use Rattle.world.specs.Telling.{told_command_turn, told_command, told_frame_turn, told_frame, told_fault, HadMemory}
use Rattle.world.specs.Standing.{journal_of, IsAt, AreAll, AreNodes}
use Rattle.world.proofs.Calls.InWorlds.{CameOut, Faring, moved_by, sent_by}
use Rattle.world.proofs.Calls.OfOneTier.{keeps_views, put_both, apart, up_is}
use Rattle.world.proofs.Calls.OnDisks.{Done, set_disk, else_disk, node_done, node_quiet}
use Rattle.world.proofs.Calls.AtLists.{set_same}
use Rattle.world.proofs.Events.EventsEnd.{Leads}

-- A NODE'S MOVE IN THE WORLD

moves_is : (u depth : ℕ) (w : BookingWorld) (t : Tier) (x : ℕ) (d : Fate) (row : State Amounts t → Move (State Amounts t)) (σ : State Amounts t)
    → x < 2 * u + 1 → (w.nodes t x).mode ≡ Up σ → moves (config u depth) w t x d row
    ≡ with_node w t x (moved_by (w.nodes t x) (d (w.nodes t x).records (row σ).facts) (row σ)) (sent_by (d (w.nodes t x).records (row σ).facts) (row σ)) []
moves_is u depth w t x d row σ l e =
    cond-true (nat_lt x (2 * u + 1)) (worlds.node_up w t x d row (λ σ. []) (w.nodes t x).mode) w (lt-ltb x (2 * u + 1) l)
    ∙ ap (worlds.node_up w t x d row (λ σ. [])) e

-- A NODE IN ITS PLACE

pub node_put : (u depth : ℕ) (w : BookingWorld) (old new : Nodes) (t : Tier) (x : ℕ) (node : NodeOf (State Amounts t) Fact) (ks : List Packet)
    → AreNodes u depth w old → AreAll (2 * u + 1) (IsAt u depth t) (put (w.nodes t) x node) (views new t) → KeepsElse t old new → AreFit ks → AllReach u ks
    → Leads u depth w (with_node w t x node ks []) new ks
node_put u depth w old new t x node ks k h e fit reach = record {
  are = record {
    at = put_both w.nodes t (put (w.nodes t) x node) (λ v f. AreAll (2 * u + 1) (IsAt u depth v) f (views new v)) h
        (λ v d. subst (AreAll (2 * u + 1) (IsAt u depth v) (w.nodes v)) (sym (keeps_views t v old new d e)) (k.at v));
  };
  soup = refl;
  logs = refl;
  hist = refl;
  fit = fit;
  reach = reach;
}

-- its disk
pub disk_put : (w : BookingWorld) (t : Tier) (x : ℕ) (node : NodeOf (State Amounts t) Fact) (ks : List Packet) (disks : List DiskState)
    (disk : DiskState) → x < 5 → AreDisks w disks → IsDiskOf node disk → AreDisks (with_node w t x node ks []) (slice_set disks (first_of t + x) disk)
disk_put w t x node ks disks disk l k h = record {
  all = length-set disks (first_of t + x) disk ∙ k.all;
  at = put_both w.nodes t (put (w.nodes t) x node) (λ v f. AreDisksOf f (first_of v) (slice_set disks (first_of t + x) disk))
      (set_disk (w.nodes t) (first_of t) x node disks disk (k.at t) h)
      (λ v d. else_disk (w.nodes v) (first_of v) (first_of t + x) disks disk (apart v t x l d) (k.at v));
}

-- WHAT IS PRINTED

abbrev pub NotRan : Answer → Type 0
NotRan (Ran note) = ⊥
NotRan Did = Unit {0}
NotRan (Dropped refusal) = Unit {0}
NotRan (Idles cause) = Unit {0}

tells_is : (n : NodeId) (answer : Answer) → NotRan answer → texts.tells_command (texts.node_name n) answer ≡ told_command_turn n answer
tells_is n (Ran note) k = absurd k
tells_is n Did k = refl
tells_is n (Dropped refusal) k = refl
tells_is n (Idles cause) k = refl

-- what a packet's handling prints
frame_tells : (n : NodeId) (answer : Answer) → texts.tells_frame (texts.node_name n) answer ≡ told_frame_turn n answer
frame_tells n (Ran note) = refl
frame_tells n Did = refl
frame_tells n (Dropped refusal) = refl
frame_tells n (Idles cause) = refl

past_same : (u depth : ℕ) (records : List (List Fact)) (facts : List Fact) → worlds.is_past (config u depth) records facts ≡ is_past (journal_of records) facts
past_same u depth records [] = refl
past_same u depth records (f ∷ fs) = refl

-- what the move prints is what the call told
told_by : {T : Type 0} (u depth : ℕ) (n : NodeId) (records : List (List Fact)) (fared : Fared) (met : Bool)
    (tells : List ℕ → Answer → List ℕ) (told : Answer → List ℕ) (v : Move T) (result : Result Answer Fault)
    (whole : Result Answer Fault → List ℕ) → tells (texts.node_name n) v.answer ≡ told v.answer
    → ((answer : Answer) → whole (Ok answer) ≡ told answer)
    → ((fault : Fault) → whole (Err fault) ≡ told_fault n met fault)
    → CameOut result met (is_well (fate (config u depth) fared records v.facts) v.facts) fared
    (is_past (journal_of records) v.facts) v
    → texts.moves_text (config u depth) n fared records tells v ≡ whole result
told_by u depth n records fared met tells told v (Ok answer) whole t o f h =
    cond-true (is_well (fate (config u depth) fared records v.facts) v.facts) (tells (texts.node_name n) v.answer)
    (texts.down_line (texts.node_name n) (texts.fault_text (worlds.is_past (config u depth) records v.facts) fared)) h.0
    ∙ t ∙ ap told (sym h.1) ∙ sym (o answer)
told_by u depth n records fared met tells told v (Err (faults.JournalFull size)) whole t o f h =
    cond-false (is_well (fate (config u depth) fared records v.facts) v.facts) (tells (texts.node_name n) v.answer)
    (texts.down_line (texts.node_name n) (texts.fault_text (worlds.is_past (config u depth) records v.facts) fared)) h.0
    ∙ ap (λ z. texts.down_line (texts.node_name n) (texts.fault_text z fared)) (past_same u depth records v.facts ∙ h.1) ∙ sym (f (faults.JournalFull size))
told_by u depth n records fared met tells told v (Err faults.Memory) whole t o f h = absurd h
told_by u depth n records fared true tells told v (Err faults.Disk) whole t o f h =
    cond-false (is_well (fate (config u depth) fared records v.facts) v.facts) (tells (texts.node_name n) v.answer)
    (texts.down_line (texts.node_name n) (texts.fault_text (worlds.is_past (config u depth) records v.facts) fared)) h.0
    ∙ ap (λ z. texts.down_line (texts.node_name n) (texts.fault_text z fared)) (past_same u depth records v.facts ∙ h.1)
    ∙ ap (texts.down_line (texts.node_name n)) h.2 ∙ sym (f faults.Disk)
told_by u depth n records fared false tells told v (Err faults.Disk) whole t o f h =
    cond-false (is_well (fate (config u depth) fared records v.facts) v.facts) (tells (texts.node_name n) v.answer)
    (texts.down_line (texts.node_name n) (texts.fault_text (worlds.is_past (config u depth) records v.facts) fared)) h.0
    ∙ ap (λ z. texts.down_line (texts.node_name n) (texts.fault_text z fared)) (past_same u depth records v.facts ∙ h.1)
    ∙ ap (texts.down_line (texts.node_name n)) h.2 ∙ sym (f faults.Disk)
told_by u depth n records fared met tells told v (Err (faults.BadRecord at)) whole t o f h = absurd h

pub moves_told : {T : Type 0} (u depth : ℕ) (n : NodeId) (records : List (List Fact)) (fared : Fared) (met : Bool)
    (v : Move T) (result : Result Answer Fault) → NotRan v.answer
    → CameOut result met (is_well (fate (config u depth) fared records v.facts) v.facts) fared
    (is_past (journal_of records) v.facts) v
    → texts.moves_text (config u depth) n fared records texts.tells_command v ≡ told_command n met result
moves_told u depth n records fared met v result k h = told_by u depth n records fared met texts.tells_command
    (told_command_turn n) v result (told_command n met) (tells_is n v.answer k) (λ a. refl) (λ f. refl) h

pub frames_told : {T : Type 0} (u depth : ℕ) (n : NodeId) (records : List (List Fact)) (fared : Fared) (met : Bool)
    (v : Move T) (result : Result Answer Fault)
    → CameOut result met (is_well (fate (config u depth) fared records v.facts) v.facts) fared
    (is_past (journal_of records) v.facts) v
    → texts.moves_text (config u depth) n fared records texts.tells_frame v ≡ told_frame n met result
frames_told u depth n records fared met v result h = told_by u depth n records fared met texts.tells_frame
    (told_frame_turn n) v result (told_frame n met) (frame_tells n v.answer) (λ a. refl) (λ f. refl) h

-- THE COMMANDS

pub log_not_ran : (o : Option LogIdle) → NotRan (log_answer o)
log_not_ran None = tt
log_not_ran (Some idle) = tt

-- What a command comes to: packets, a world with new nodes on these disks, and a text.
pub record Commanded (u depth : ℕ) (w new : BookingWorld) (nodes : Nodes) (disks : List DiskState)
    (after : List (End × List ℕ)) (text told : List ℕ) : Type 0 where
  pub packets : List Packet
  pub sends : after ≡ map sealed packets
  pub leads : Leads u depth w new nodes packets
  pub on : AreDisks new disks
  pub clients : new.clients ≡ w.clients
  pub text_is : text ≡ told

-- a node that is up, and its disk
pub record UpAt (u depth : ℕ) (w : BookingWorld) (nodes : Nodes) (t : Tier) (x : ℕ) (disks : List DiskState) (disk : DiskState) : Type 0 where
  pub few : u ≤ 2
  pub nodes_are : AreNodes u depth w nodes
  pub disks_are : AreDisks w disks
  pub there : x < 2 * u + 1
  pub disk_is : slice_get disks (first_of t + x) ≡ Some disk
  pub up : up_in nodes t x ≡ true

moves_clients : (u depth : ℕ) (w : BookingWorld) (t : Tier) (x : ℕ) (d : Fate) (row : State Amounts t → Move (State Amounts t)) (σ : State Amounts t)
    → x < 2 * u + 1 → (w.nodes t x).mode ≡ Up σ → (moves (config u depth) w t x d row).clients ≡ w.clients
moves_clients u depth w t x d row σ l e = ap (λ (z : BookingWorld). z.clients) (moves_is u depth w t x d row σ l e)

node_command : (u depth : ℕ) (w : BookingWorld) (old new : Nodes) (t : Tier) (x : ℕ) (disks : List DiskState) (disk disk_after : DiskState)
    (after : List (End × List ℕ)) (d : Fate) (asked fared : Fared) (met : Bool) (row : State Amounts t → Move (State Amounts t))
    (result : Result Answer Fault) (text : Mode (State Amounts t) → List ℕ) (told : List ℕ) → UpAt u depth w old t x disks disk
    → Done (2 * u + 1) x u (IsAt u depth t) (w.nodes t) (views new t) disk disk_after after d asked fared met row result → KeepsElse t old new
    → ((σ : State Amounts t) → CameOut result met (is_well (d (w.nodes t x).records (row σ).facts) (row σ).facts) fared
    (is_past (journal_of (w.nodes t x).records) (row σ).facts) (row σ) → text (Up σ) ≡ told)
    → Commanded u depth w (moves (config u depth) w t x d row) new (slice_set disks (first_of t + x) disk_after) after (text (w.nodes t x).mode) told
    × Faring asked fared disk disk_after
node_command u depth w old new t x disks disk disk_after after d asked fared met row result text told k h e tells =
    let move = row h.state in
    let dev = d (w.nodes t x).records move.facts in
    let is = moves_is u depth w t x d row h.state k.there h.up in (
      record {
        packets = sent_by dev move;
        sends = h.sends;
        leads = subst (λ z. Leads u depth w z new (sent_by dev move)) (sym is)
            (node_put u depth w old new t x (moved_by (w.nodes t x) dev move) (sent_by dev move) k.nodes_are h.all e h.fit h.reach);
        on = subst (λ z. AreDisks z (slice_set disks (first_of t + x) disk_after)) (sym is)
            (disk_put w t x (moved_by (w.nodes t x) dev move) (sent_by dev move) disks disk_after
            (let few = k.few in let l = k.there in omega (arith, few, l)) k.disks_are h.on);
        clients = moves_clients u depth w t x d row h.state k.there h.up;
        text_is = ap text h.up ∙ tells h.state h.out;
      },
      h.how,
    )

-- a call during which the disk may stop
pub node_by : (u depth : ℕ) (w : BookingWorld) (old new : Nodes) (t : Tier) (x : ℕ) (stop : Option StopAt) (disks : List DiskState)
    (disk disk_after : DiskState) (after : List (End × List ℕ)) (row : RowOf) (result : Result Answer Fault) (met : Bool)
    (text : Mode (State Amounts t) → List ℕ) (told : List ℕ) → UpAt u depth w old t x disks disk → CanStop stop → HadMemory result
    → Called old new t x stop disk disk_after [] after row result met
    → ((σ : State Amounts t) → CameOut result met (is_well (fate (config u depth) (fared_by stop met result) (w.nodes t x).records
    (row _ (kind_at (config u depth) t x) σ).facts) (row _ (kind_at (config u depth) t x) σ).facts) (fared_by stop met result)
    (is_past (journal_of (w.nodes t x).records) (row _ (kind_at (config u depth) t x) σ).facts) (row _ (kind_at (config u depth) t x) σ)
    → text (Up σ) ≡ told)
    → Commanded u depth w (moves (config u depth) w t x (fate (config u depth) (fared_by stop met result)) (row _ (kind_at (config u depth) t x))) new
    (slice_set disks (first_of t + x) disk_after) after (text (w.nodes t x).mode) told
    × Faring (asked_of stop) (fared_by stop met result) disk disk_after
node_by u depth w old new t x stop disks disk disk_after after row result met text told k stops memory c tells =
    let few = k.few in
    let l = k.there in
    let h = node_done u depth t x (w.nodes t) old new stop disk disk_after after row result met (k.nodes_are.at t) (sym (up_is old t x) ∙ k.up)
    (k.disks_are.at t x disk (omega (arith, few, l)) k.disk_is) stops memory c in
    node_command u depth w old new t x disks disk disk_after after (fate (config u depth) (fared_by stop met result)) (asked_of stop)
    (fared_by stop met result) met (row _ (kind_at (config u depth) t x)) result text told k h.0 h.1 tells

-- a call that writes nothing
pub node_still : (u depth : ℕ) (w : BookingWorld) (old new : Nodes) (t : Tier) (x : ℕ) (disks : List DiskState) (disk : DiskState)
    (after : List (End × List ℕ)) (row : RowOf) (result : Result Answer Fault) (text : Mode (State Amounts t) → List ℕ) (told : List ℕ)
    → UpAt u depth w old t x disks disk → HadMemory result → ((σ : State Amounts t) → (row _ (kind_at (config u depth) t x) σ).facts ≡ [])
    → MoveIn old new t x disk disk [] after row result
    → ((σ : State Amounts t) → CameOut result false (is_well (unwritten (w.nodes t x).records (row _ (kind_at (config u depth) t x) σ).facts)
    (row _ (kind_at (config u depth) t x) σ).facts) Fine (is_past (journal_of (w.nodes t x).records) (row _ (kind_at (config u depth) t x) σ).facts)
    (row _ (kind_at (config u depth) t x) σ) → text (Up σ) ≡ told)
    → Commanded u depth w (moves (config u depth) w t x unwritten (row _ (kind_at (config u depth) t x))) new disks after (text (w.nodes t x).mode) told
node_still u depth w old new t x disks disk after row result text told k memory silent move tells =
    let few = k.few in
    let l = k.there in
    let h = node_quiet u depth t x (w.nodes t) (views old t) (views new t) disk after row result (k.nodes_are.at t) (sym (up_is old t x) ∙ k.up)
    (k.disks_are.at t x disk (omega (arith, few, l)) k.disk_is) memory silent move.0 in
    let r = node_command u depth w old new t x disks disk disk after unwritten Fine Fine false (row _ (kind_at (config u depth) t x)) result text told k h
    move.1 tells in
    subst (λ z. Commanded u depth w (moves (config u depth) w t x unwritten (row _ (kind_at (config u depth) t x))) new z after (text (w.nodes t x).mode) told)
    (sym (set_same disks (first_of t + x) disk k.disk_is)) r.0
