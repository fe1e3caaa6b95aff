-- A packet that reaches a node.
use Rattle.std.proofs.Common.{◌≡◌, ℕ, ◌+◌, ◌*◌, ◌<◌, ◌≤◌, Bool, true, false, List, [], ◌∷◌, ◌++◌, refl, sym, ap, ◌∙◌}
use Rattle.std.proofs.Common.{subst, length, Option, Some, None, Result, Ok, Err, zero, suc}
use Rattle.std.specs.Prelude.{slice_get, slice_set, map, nat_lt, nat_le}
use Rattle.std.proofs.lemmas.Bool.{cond-true, cond-false, ltb-true, ltb-false, le-leb, lt-leb}
use Rattle.log_model.specs.Nodes.{Mode, Node as NodeOf}
use Rattle.log_values.specs.declared.fact.Fact.{Fact}
use Rattle.log_model.specs.Nodes.Mode.{Up, Down, Gone}
use Rattle.frames.specs.declared.header.Refused.TheVariants as refusals
use Rattle.run_model.specs.Runs.{grows}
use Rattle.aeg_base.specs.declared.names.Tier.{Tier}
use Rattle.aeg_base.specs.declared.names.Tier.TheVariants.{Mid as MidTier, Inv, Pay}
use Rattle.aeg_base.specs.declared.names.NodeId.{NodeId}
use Rattle.aeg_base.specs.declared.names.End.{End}
use Rattle.aeg_base.specs.declared.names.End.TheVariants.{Node, Client}
use Rattle.aeg_base.specs.declared.memory.Memory.{Memory}
use Rattle.aeg_disk.specs.Disk.{DiskState}
use Rattle.frames.specs.declared.header.Header.{Header}
use Rattle.frames.specs.declared.message.Msg.{Msg}
use Rattle.tier_model.specs.declared.turn.Turn.{Turn as Answer}
use Rattle.tier_model.specs.declared.turn.Fault.{Fault as NodeFault}
use Rattle.frames.specs.Frames.{frame, header_for}
use Rattle.frames.proofs.FrameGrammar.{frame_again}
use Rattle.tier_model.specs.Moves.{Packet, Move}
use Rattle.tier_model.specs.Kinds.{State}
use Rattle.server_model.specs.Backends.{Amounts}
use Rattle.run_model.specs.declared.trace.Fared.{Fared}
use Rattle.run_model.specs.declared.trace.Fared.TheVariants.{Fine}
use Rattle.run_model.specs.declared.trace.TraceEvent.TheVariants as events
use Rattle.run_model.specs.World as worlds
use Rattle.run_model.specs.World.{kind_at, fate, happens, can_fare}
use Rattle.run_model.specs.Resolving as resolving
use Rattle.run_model.specs.Text as texts
use Rattle.run_model.specs.Text.{own_text, growth_text, after}
use Rattle.world.specs.declared.nodes.all_nodes.Nodes.{Nodes}
use Rattle.world.specs.declared.parts.Parts.{Parts}
use Rattle.world.specs.declared.parts.arming.StopAt.{StopAt}
use Rattle.run_model.specs.BookingRuns.{config, BookingWorld}
use Rattle.world.specs.Arming.{CanStop, asked_of, fared_by}
use Rattle.world.specs.Calling.{Called}
use Rattle.world.specs.Disks.{AreDisks, HasCause, first_of, place_of, place_of_end, place_of_packet}
use Rattle.world.specs.Parts.{CanReach, Reaches, sealed}
use Rattle.world.specs.NodeLists.{up_in, CanReachIn, HasNode}
use Rattle.world.specs.Packets.{node_of, receiver_in, message_of, message_in, is_cut_in}
use Rattle.world.specs.Telling.{told_frame, HadMemory}
use Rattle.world.specs.Standing.{AreNodes, Shows, Makes, PlaysBy, AreShownOn}
use Rattle.world.proofs.Calls.InWorlds.{Faring}
use Rattle.world.proofs.Calls.CommandsInWorlds.{frames_told, Commanded, UpAt, node_by}
use Rattle.world.proofs.Calls.CommandsOfTiers.{rests, node_stays}
use Rattle.world.proofs.Events.WholeEvents.{if_can}
use Rattle.world.proofs.Calls.NodesThere.{node_up, has_node}

-- AT A NODE THAT IS UP

pub arrive_by : (u depth : ℕ) (w : BookingWorld) (old new : Nodes) (n : NodeId) (k : ℕ) (from : End) (message : Msg) (stop : Option StopAt)
    (disks : List DiskState) (disk disk_after : DiskState) (after : List (End × List ℕ)) (result : Result Answer NodeFault) (met : Bool) (t : Tier)
    → UpAt u depth w old t n.index disks disk → CanStop stop → HadMemory result
    → Called old new t n.index stop disk disk_after [] after (λ S k. k.on_frame from message) result met
    → Commanded u depth w (worlds.node_gets (config u depth) w (fared_by stop met result) from message t n.index) new
    (slice_set disks (first_of t + n.index) disk_after) after (texts.node_frame_text (config u depth) w k (fared_by stop met result) from message n t)
    (told_frame n met result) × Faring (asked_of stop) (fared_by stop met result) disk disk_after
arrive_by u depth w old new n k from message stop disks disk disk_after after result met t h stops memory c =
    let row : State Amounts t → Move (State Amounts t) = (kind_at (config u depth) t n.index).on_frame from message in
    let fared = fared_by stop met result in
    node_by u depth w old new t n.index stop disks disk disk_after after (λ S z. z.on_frame from message) result met
    (texts.frames_text (config u depth) n k fared (w.nodes t n.index) row) (told_frame n met result) h stops memory c
    (λ σ e. frames_told u depth n (w.nodes t n.index).records fared met (row σ) result e)

-- AT A NODE THAT ISN'T UP

lost : {S : Type 0} (u depth : ℕ) (n : NodeId) (k : ℕ) (fared : Fared) (node : NodeOf S Fact) (row : S
    → Move S) (m : Mode S) → resolving.is_up m ≡ false → texts.frames_text (config u depth) n k fared node row m ≡ texts.lost_line k
lost u depth n k fared node row (Up s) e = absurd (cc)
lost u depth n k fared node row Down e = refl
lost u depth n k fared node row Gone e = refl

pub lost_by : (u depth : ℕ) (w : BookingWorld) (nodes : Nodes) (n : NodeId) (k : ℕ) (fared : Fared) (from : End) (message : Msg) (disks : List DiskState)
    (t : Tier) → AreNodes u depth w nodes → AreDisks w disks → n.index < 2 * u + 1 → up_in nodes t n.index ≡ false
    → Commanded u depth w (worlds.node_gets (config u depth) w fared from message t n.index) nodes disks []
    (texts.node_frame_text (config u depth) w k fared from message n t) (texts.lost_line k)
lost_by u depth w nodes n k fared from message disks t a on l e =
    let row : State Amounts t → Move (State Amounts t) = (kind_at (config u depth) t n.index).on_frame from message in
    let absent : resolving.is_up (w.nodes t n.index).mode ≡ false = sym (node_up u depth w nodes t n.index a l) ∙ e in
    let text = texts.frames_text (config u depth) n k fared (w.nodes t n.index) row (w.nodes t n.index).mode in
    subst (λ z. Commanded u depth w z nodes disks [] text (texts.lost_line k)) (sym (node_stays u depth w t n.index (fate (config u depth) fared) row absent))
    (rests u depth w nodes disks _ _ a on (lost u depth n k fared (w.nodes t n.index) row (w.nodes t n.index).mode absent))

-- PACKETS

abbrev sealed_option : Option Packet → Option (End × List ℕ)
sealed_option None = None
sealed_option (Some k) = Some (sealed k)

get_sealed : (ks : List Packet) (i : ℕ) (o : Option Packet) → slice_get ks i ≡ o → slice_get (map sealed ks) i ≡ sealed_option o
get_sealed [] i o e = ap sealed_option e
get_sealed (k ∷ ks) zero o e = ap sealed_option e
get_sealed (k ∷ ks) (suc i) o e = get_sealed ks i o e

-- a packet that goes to the node
pub record Addressed (u : ℕ) (w : BookingWorld) (parts : Parts) (i : ℕ) (n : NodeId) : Type 0 where
  pub packet : Packet
  pub is : slice_get w.soup i ≡ Some packet
  pub to : packet.to ≡ Node n
  pub there : n.index < 2 * u + 1
  pub reach : CanReach u packet.from n.tier packet.message
  pub says : message_in (slice_get parts.soup i) ≡ Some (header_for packet.from packet.message, packet.message)

pub addressed : (u depth : ℕ) (w : BookingWorld) (parts : Parts) (i : ℕ) (n : NodeId) → Shows u depth w parts
    → receiver_in (slice_get parts.soup i) ≡ Some n → Addressed u w parts i n
addressed u depth w parts i n s e = go (slice_get w.soup i) refl
  where
    at : (o : Option Packet) → slice_get w.soup i ≡ o → slice_get parts.soup i ≡ sealed_option o
    at o f = ap (λ z. slice_get z i) s.soup ∙ get_sealed w.soup i o f

    to_node : (to : End) → node_of to ≡ Some n → to ≡ Node n
    to_node (Node m) f = let g : m ≡ n = cc in ap Node g
    to_node (Client y) f = absurd (cc)

    go : (o : Option Packet) → slice_get w.soup i ≡ o → Addressed u w parts i n
    go None f = absurd (let g : receiver_in (slice_get parts.soup i) ≡ None = ap receiver_in (at None f) in cc)
    go (Some k) f =
        let t : k.to ≡ Node n = to_node k.to (sym (ap receiver_in (at (Some k) f)) ∙ e) in
        let r : Reaches u k.from (Node n) k.message = subst (λ z. Reaches u k.from z k.message) t (s.reach i k f) in
        record {
          packet = k;
          is = f;
          to = t;
          there = r.0;
          reach = r.1;
          says = ap message_in (at (Some k) f)
              ∙ ap message_of (frame_again k.from k.message (s.fit i k f));
        }

-- the node is there
pub has_receiver : (parts : Parts) (disks : List DiskState) (i : ℕ) (n : NodeId) → AreShownOn parts disks
    → receiver_in (slice_get parts.soup i) ≡ Some n → HasNode parts.nodes n
has_receiver parts disks i n r e = has_node r.0 r.1 r.2 parts.nodes n.index n.tier r.3.nodes (addressed r.0 r.1 r.2 parts i n r.3 e).there

-- its disk is the node's
pub place_is : (u : ℕ) (w : BookingWorld) (parts : Parts) (i : ℕ) (n : NodeId) (a : Addressed u w parts i n)
    → place_of_packet (slice_get w.soup i) ≡ Some (place_of n)
place_is u w parts i n a = ap place_of_packet a.is ∙ ap place_of_end a.to

-- what is found in a packet
pub found_is : (o : Option (Header × Msg)) (h : Header) (m : Msg) (k : Packet) → o ≡ Some (h, m)
    → o ≡ Some (header_for k.from k.message, k.message) → (k.from ≡ h.from) × (k.message ≡ m)
found_is o h m k e f =
    let g : ◌≡◌ {A = Option (Header × Msg)} (Some (header_for k.from k.message, k.message)) (Some (h, m)) = sym f ∙ e in
    let p : ◌≡◌ {A = Header × Msg} (header_for k.from k.message, k.message) (h, m) = cc in
    (ap (λ z. z.0.from) p, ap (λ z. z.1) p)

-- a packet that goes to no node was never sent
pub unsent : (u depth : ℕ) (w : BookingWorld) (parts : Parts) (i : ℕ) → Shows u depth w parts
    → receiver_in (slice_get parts.soup i) ≡ None → slice_get w.soup i ≡ None
unsent u depth w parts i s e = go (slice_get w.soup i) refl
  where
    never : (k : Packet) (to : End) → Reaches u k.from to k.message → node_of to ≡ None → ⊥
    never k (Node m) r f = cc
    never k (Client y) r f = r

    go : (o : Option Packet) → slice_get w.soup i ≡ o → slice_get w.soup i ≡ None
    go None f = f
    go (Some k) f = absurd (never k k.to (s.reach i k f) (sym (ap receiver_in (ap (λ z. slice_get z i) s.soup ∙ get_sealed w.soup i (Some k) f)) ∙ e))

reached : (u : ℕ) (from : End) (t : Tier) (message : Msg) (faults : ℕ) (tier : Tier) → faults ≡ u → tier ≡ t → CanReach u from t message
    → CanReach faults from tier message
reached u from t message faults tier e f r = subst (λ z. CanReach z from tier message) (sym e) (subst (λ z. CanReach u from z message) (sym f) r)

-- the message can reach the node that it goes to
pub reaches_at : (u depth : ℕ) (w : BookingWorld) (nodes : Nodes) (n : NodeId) (from : End) (message : Msg) (t : Tier)
    → AreNodes u depth w nodes → CanReach u from t message → CanReachIn nodes t n.index from message
reaches_at u depth w nodes n from message MidTier k r = λ v e. subst (λ z. CanReach z from MidTier message) (sym ((k.at MidTier).each n.index v e).faults) r
reaches_at u depth w nodes n from message Inv k r = λ v e. reached u from Inv message v.faults v.tier ((k.at Inv).each n.index v e).faults
    ((k.at Inv).each n.index v e).tier r
reaches_at u depth w nodes n from message Pay k r = λ v e. reached u from Pay message v.faults v.tier ((k.at Pay).each n.index v e).faults
    ((k.at Pay).each n.index v e).tier r

-- THE EVENT

pub deliver_none : (u depth : ℕ) (w : BookingWorld) (nodes : Nodes) (k : ℕ) (fared : Fared) (disks : List DiskState)
    → can_fare fared ≡ true → AreNodes u depth w nodes → AreDisks w disks → slice_get w.soup k ≡ None
    → Commanded u depth w (happens (config u depth) w (events.Deliver k fared)) nodes disks []
    (own_text (config u depth) w (events.Deliver k fared)) (texts.none_line k)
deliver_none u depth w nodes k fared disks can a on e =
    if_can u depth w _ nodes disks [] fared _ (texts.none_line k) can
    (subst (λ z. Commanded u depth w (worlds.delivered (config u depth) w fared z) nodes disks []
    (texts.delivers_text (config u depth) w k fared z) (texts.none_line k)) (sym e)
    (rests u depth w nodes disks (texts.none_line k) (texts.none_line k) a on refl))

-- what the event of a packet comes to is what its arrival comes to
at_receiver : (u depth : ℕ) (w : BookingWorld) (nodes : Nodes) (k : ℕ) (fared : Fared) (n : NodeId) (packet : Packet)
    (disks : List DiskState) (after : List (End × List ℕ)) (told : List ℕ) → can_fare fared ≡ true
    → slice_get w.soup k ≡ Some packet → packet.to ≡ Node n
    → Commanded u depth w (worlds.node_gets (config u depth) w fared packet.from packet.message n.tier n.index) nodes
    disks after (texts.node_frame_text (config u depth) w k fared packet.from packet.message n n.tier) told
    → Commanded u depth w (happens (config u depth) w (events.Deliver k fared)) nodes disks after (own_text (config u depth) w (events.Deliver k fared)) told
at_receiver u depth w nodes k fared n packet disks after told can e t h =
    if_can u depth w _ nodes disks after fared _ told can
    (subst (λ z. Commanded u depth w (worlds.delivered (config u depth) w fared z) nodes disks after
    (texts.delivers_text (config u depth) w k fared z) told) (sym e)
    (subst (λ z. Commanded u depth w (worlds.arrives (config u depth) w fared packet.from packet.message z) nodes disks
    after (texts.arrives_text (config u depth) w k fared packet z) told) (sym t) h))

pub deliver_lost : (u depth : ℕ) (w : BookingWorld) (parts : Parts) (k : ℕ) (fared : Fared) (n : NodeId)
    (disks : List DiskState) → can_fare fared ≡ true → Shows u depth w parts → AreDisks w disks
    → Addressed u w parts k n → up_in parts.nodes n.tier n.index ≡ false
    → Commanded u depth w (happens (config u depth) w (events.Deliver k fared)) parts.nodes disks []
    (own_text (config u depth) w (events.Deliver k fared)) (texts.lost_line k)
deliver_lost u depth w parts k fared n disks can s on a e = at_receiver u depth w parts.nodes k fared n a.packet disks
    [] (texts.lost_line k) can a.is a.to
    (lost_by u depth w parts.nodes n k fared a.packet.from a.packet.message disks n.tier s.nodes on a.there e)

pub deliver_done : (u depth : ℕ) (w : BookingWorld) (parts : Parts) (new : Nodes) (k : ℕ) (n : NodeId) (from : End)
    (message : Msg) (stop : Option StopAt) (disks : List DiskState) (disk disk_after : DiskState)
    (after : List (End × List ℕ)) (result : Result Answer NodeFault) (met : Bool) → (a : Addressed u w parts k n)
    → a.packet.from ≡ from → a.packet.message ≡ message
    → UpAt u depth w parts.nodes n.tier n.index disks disk → CanStop stop → HadMemory result
    → Called parts.nodes new n.tier n.index stop disk disk_after [] after (λ S z. z.on_frame from message) result met
    → Commanded u depth w (happens (config u depth) w (events.Deliver k (fared_by stop met result))) new
    (slice_set disks (first_of n.tier + n.index) disk_after) after
    (own_text (config u depth) w (events.Deliver k (fared_by stop met result))) (told_frame n met result)
    × Faring (asked_of stop) (fared_by stop met result) disk disk_after
deliver_done u depth w parts new k n from message stop disks disk disk_after after result met a f g up stops memory c =
    let r = arrive_by u depth w parts.nodes new n k from message stop disks disk disk_after after result met n.tier up stops memory c in (
      at_receiver u depth w new k (fared_by stop met result) n a.packet
          (slice_set disks (first_of n.tier + n.index) disk_after) after (told_frame n met result) r.1.can a.is a.to
          (subst (λ z. Commanded u depth w
          (worlds.node_gets (config u depth) w (fared_by stop met result) z a.packet.message n.tier n.index) new
          (slice_set disks (first_of n.tier + n.index) disk_after) after
          (texts.node_frame_text (config u depth) w k (fared_by stop met result) z a.packet.message n n.tier)
          (told_frame n met result)) (sym f)
          (subst (λ z. Commanded u depth w
          (worlds.node_gets (config u depth) w (fared_by stop met result) from z n.tier n.index) new
          (slice_set disks (first_of n.tier + n.index) disk_after) after
          (texts.node_frame_text (config u depth) w k (fared_by stop met result) from z n n.tier)
          (told_frame n met result)) (sym g) r.0)),
      r.1,
    )

-- A PACKET THAT IS CUT SHORT

length_is : (u depth : ℕ) (w : BookingWorld) (parts : Parts) (i : ℕ) (k : Packet) → Shows u depth w parts
    → slice_get w.soup i ≡ Some k → slice_get parts.soup i ≡ Some (sealed k)
length_is u depth w parts i k s e = ap (λ z. slice_get z i) s.soup ∙ get_sealed w.soup i (Some k) e

-- one that isn't cut is delivered, however it fares
pub short_whole : (u depth : ℕ) (w : BookingWorld) (parts : Parts) (i bytes : ℕ) (fared : Fared) → Shows u depth w parts
    → is_cut_in (slice_get parts.soup i) bytes ≡ false
    → (happens (config u depth) w (events.Short i bytes fared) ≡ happens (config u depth) w (events.Deliver i fared))
    × (own_text (config u depth) w (events.Short i bytes fared) ≡ own_text (config u depth) w (events.Deliver i fared))
short_whole u depth w parts i bytes fared s e =
    let r = go (slice_get w.soup i) refl in
    (ap (λ z. worlds.if_can fared z w) r.0, ap (texts.if_can fared) r.1)
  where
    go : (o : Option Packet) → slice_get w.soup i ≡ o
        → (worlds.shortened (config u depth) w fared bytes (slice_get w.soup i)
        ≡ worlds.delivered (config u depth) w fared (slice_get w.soup i))
        × (texts.shorts_text (config u depth) w i bytes fared (slice_get w.soup i)
        ≡ texts.delivers_text (config u depth) w i fared (slice_get w.soup i))
    go o f = subst (λ z. (worlds.shortened (config u depth) w fared bytes z
        ≡ worlds.delivered (config u depth) w fared z)
        × (texts.shorts_text (config u depth) w i bytes fared z ≡ texts.delivers_text (config u depth) w i fared z))
        (sym f) (same o f)
      where
        same : (o : Option Packet) → slice_get w.soup i ≡ o
            → (worlds.shortened (config u depth) w fared bytes o ≡ worlds.delivered (config u depth) w fared o)
            × (texts.shorts_text (config u depth) w i bytes fared o ≡ texts.delivers_text (config u depth) w i fared o)
        same None f = (refl, refl)
        same (Some k) f =
            let g : nat_lt bytes (length (frame k.from k.message)) ≡ false = sym (ap (λ z. is_cut_in z bytes) (length_is u depth w parts i k s f)) ∙ e in
            let l : length (frame k.from k.message) ≤ bytes = ltb-false bytes (length (frame k.from k.message)) g in
            let t : nat_le (length (frame k.from k.message)) bytes ≡ true = le-leb (length (frame k.from k.message)) bytes l in (
              cond-true (nat_le (length (frame k.from k.message)) bytes) _ w t,
              cond-true (nat_le (length (frame k.from k.message)) bytes) _ (texts.cut_short_text w i k.to) t,
            )

short_cause : (w : BookingWorld) (before after : List DiskState) (i bytes : ℕ) (fared : Fared)
    → HasCause w before after (events.Deliver i fared) → HasCause w before after (events.Short i bytes fared)
short_cause w before after i bytes fared h = h

-- the same event, whatever it is called
pub short_makes : (u depth : ℕ) (w : BookingWorld) (old new : Parts) (disks_before disks_after : List DiskState)
    (before now : List ℕ) (i bytes : ℕ) (fared : Fared) → Shows u depth w old → is_cut_in (slice_get old.soup i) bytes ≡ false
    → Makes new disks_before disks_after before now (events.Deliver i fared) u depth w
    → Makes new disks_before disks_after before now (events.Short i bytes fared) u depth w
short_makes u depth w old new disks_before disks_after before now i bytes fared s e h =
    let r = short_whole u depth w old i bytes fared s e in
    record {
      shows = subst (λ z. Shows u depth (grows (config u depth) z) new) (sym r.0) h.shows;
      disks = subst (λ z. AreDisks (grows (config u depth) z) disks_after) (sym r.0) h.disks;
      cause = short_cause w disks_before disks_after i bytes fared h.cause;
      later = h.later;
      finds = tt;
      told = h.told ∙ ap (λ z. before ++ z) (sym (λ j. r.1 j ++ growth_text w (grows (config u depth) (r.0 j))));
    }

pub short_plays : (old new : Parts) (disks_before disks_after : List DiskState) (before now : List ℕ) (i bytes : ℕ)
    (result : Result Fared Memory) → is_cut_in (slice_get old.soup i) bytes ≡ false
    → PlaysBy old new disks_before disks_after before now (λ f. events.Deliver i f) Fine result
    → PlaysBy old new disks_before disks_after before now (λ f. events.Short i bytes f) Fine result
short_plays old new disks_before disks_after before now i bytes (Ok fared) e h = (
  h.0,
  λ u depth w s d. short_makes u depth w old new disks_before disks_after before now i bytes fared s e (h.1 u depth w s d),
)
short_plays old new disks_before disks_after before now i bytes (Err memory) e h = tt

-- the node refuses it
refusing : (n : NodeId) (k : ℕ) {S : Type 0} (m : Mode S) → resolving.is_up m ≡ true
    → texts.refuses_text k n m ≡ texts.drop_line (texts.node_name n) refusals.Short
refusing n k (Up s) e = refl
refusing n k Down e = absurd (cc)
refusing n k Gone e = absurd (cc)

refuses : (u depth : ℕ) (w : BookingWorld) (nodes : Nodes) (n : NodeId) (k : ℕ) (t : Tier) → AreNodes u depth w nodes
    → n.index < 2 * u + 1 → up_in nodes t n.index ≡ true
    → texts.node_refuses_text w k n t ≡ texts.drop_line (texts.node_name n) refusals.Short
refuses u depth w nodes n k t a l e = refusing n k (w.nodes t n.index).mode (sym (node_up u depth w nodes t n.index a l) ∙ e)

-- or it is lost
losing : (n : NodeId) (k : ℕ) {S : Type 0} (m : Mode S) → resolving.is_up m ≡ false → texts.refuses_text k n m ≡ texts.lost_line k
losing n k (Up s) e = absurd (cc)
losing n k Down e = refl
losing n k Gone e = refl

loses : (u depth : ℕ) (w : BookingWorld) (nodes : Nodes) (n : NodeId) (k : ℕ) (t : Tier) → AreNodes u depth w nodes
    → n.index < 2 * u + 1 → up_in nodes t n.index ≡ false → texts.node_refuses_text w k n t ≡ texts.lost_line k
loses u depth w nodes n k t a l e = losing n k (w.nodes t n.index).mode (sym (node_up u depth w nodes t n.index a l) ∙ e)

short_cut : (u depth : ℕ) (w : BookingWorld) (parts : Parts) (i bytes : ℕ) (n : NodeId) (disks : List DiskState)
    (told : List ℕ) → Shows u depth w parts → AreDisks w disks → is_cut_in (slice_get parts.soup i) bytes ≡ true
    → (a : Addressed u w parts i n) → texts.node_refuses_text w i n n.tier ≡ told
    → Commanded u depth w (happens (config u depth) w (events.Short i bytes Fine)) parts.nodes disks []
    (own_text (config u depth) w (events.Short i bytes Fine)) told
short_cut u depth w parts i bytes n disks told s on e a t =
    let k = a.packet in
    let g : nat_lt bytes (length (frame k.from k.message)) ≡ true = sym (ap (λ z. is_cut_in z bytes) (length_is u depth w parts i k s a.is)) ∙ e in
    let l : bytes < length (frame k.from k.message) = ltb-true bytes (length (frame k.from k.message)) g in
    let f : nat_le (length (frame k.from k.message)) bytes ≡ false = lt-leb (length (frame k.from k.message)) bytes l in
    let world : worlds.shortened (config u depth) w Fine bytes (Some k) ≡ w = cond-false (nat_le (length (frame k.from k.message)) bytes) _ w f in
    let text : texts.shorts_text (config u depth) w i bytes Fine (Some k) ≡ told = cond-false
    (nat_le (length (frame k.from k.message)) bytes) _ (texts.cut_short_text w i k.to) f
    ∙ ap (texts.cut_short_text w i) a.to ∙ t in
    subst (λ z. Commanded u depth w (worlds.shortened (config u depth) w Fine bytes z) parts.nodes disks []
    (texts.shorts_text (config u depth) w i bytes Fine z) told) (sym a.is)
    (subst (λ z. Commanded u depth w z parts.nodes disks [] (texts.shorts_text (config u depth) w i bytes Fine (Some k))
    told) (sym world) (rests u depth w parts.nodes disks _ told s.nodes on text))

pub short_refused : (u depth : ℕ) (w : BookingWorld) (parts : Parts) (i bytes : ℕ) (n : NodeId) (disks : List DiskState)
    → Shows u depth w parts → AreDisks w disks → is_cut_in (slice_get parts.soup i) bytes ≡ true
    → Addressed u w parts i n → up_in parts.nodes n.tier n.index ≡ true
    → Commanded u depth w (happens (config u depth) w (events.Short i bytes Fine)) parts.nodes disks []
    (own_text (config u depth) w (events.Short i bytes Fine)) (texts.drop_line (texts.node_name n) refusals.Short)
short_refused u depth w parts i bytes n disks s on e a up = short_cut u depth w parts i bytes n disks _ s on e a
    (refuses u depth w parts.nodes n i n.tier s.nodes a.there up)

pub short_lost : (u depth : ℕ) (w : BookingWorld) (parts : Parts) (i bytes : ℕ) (n : NodeId) (disks : List DiskState)
    → Shows u depth w parts → AreDisks w disks → is_cut_in (slice_get parts.soup i) bytes ≡ true
    → Addressed u w parts i n → up_in parts.nodes n.tier n.index ≡ false
    → Commanded u depth w (happens (config u depth) w (events.Short i bytes Fine)) parts.nodes disks []
    (own_text (config u depth) w (events.Short i bytes Fine)) (texts.lost_line i)
short_lost u depth w parts i bytes n disks s on e a down = short_cut u depth w parts i bytes n disks _ s on e a
    (loses u depth w parts.nodes n i n.tier s.nodes a.there down)

-- a packet that is cut short goes to a node
pub cut_goes : (u depth : ℕ) (w : BookingWorld) (parts : Parts) (i bytes : ℕ) → Shows u depth w parts
    → is_cut_in (slice_get parts.soup i) bytes ≡ true → receiver_in (slice_get parts.soup i) ≡ None → ⊥
cut_goes u depth w parts i bytes s e r =
    let f = unsent u depth w parts i s r in
    let g : is_cut_in (slice_get parts.soup i) bytes ≡ false = ap (λ z. is_cut_in z bytes) (ap (λ z. slice_get z i) s.soup ∙ get_sealed w.soup i None f) in
    cc
