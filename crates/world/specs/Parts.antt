-- The nodes of the tiers, as far as they go while nothing is run: a node has its log, and a middle node its pending entries.
use Rattle.std.specs.Prelude.{◌≡◌, ◌⊎◌, ℕ, ◌+◌, ◌*◌, ◌<◌, ◌≤◌, Bool, true, false, ◌&&◌, List, [], ◌++◌, length, map}
use Rattle.std.specs.Prelude.{nat_lt, Option, Some, None, OnOk, slice_get, if◌then◌else◌}
use Rattle.std.specs.List.{AllByRecursion}
use Rattle.std.specs.declared.result.Result.{Result}
use Rattle.std.specs.declared.result.Result.TheVariants.{Ok, Err}
use Rattle.aeg_base.specs.declared.limits.TheConstants.{PACKETS, PACKETS_BEFORE}
use Rattle.aeg_base.specs.declared.names.Tier.{Tier}
use Rattle.aeg_base.specs.declared.names.Tier.TheVariants as tiers
use Rattle.aeg_base.specs.declared.names.End.{End}
use Rattle.aeg_base.specs.declared.names.End.TheVariants.{Node, Client}
use Rattle.aeg_disk.specs.Disk.{DiskState, Rose, Later}
use Rattle.fact_journal.specs.Standing.{HasFacts, StandsFor}
use Rattle.fact_journal.specs.Fitting.{FactsFit, EachFits, all_facts, open_after_all}
use Rattle.fact_journal.specs.Calls.{length_with, is_past, old_or_new, IsCut}
use Rattle.server_model.specs.Backends.{Amounts}
use Rattle.log_model.specs.declared.message.PaxMsg.{PaxMsg}
use Rattle.log_model.specs.Log.{LogState, open_at}
use Rattle.log_model.specs.Recover.{newest}
use Rattle.log_model.specs.Ranges.{IsMessageIn}
use Rattle.log_model.specs.Nodes.{Mode, recorded, writes}
use Rattle.log_model.specs.Nodes.Mode.{Up, Down, Gone}
use Rattle.log_values.specs.declared.any_value.AnyValue.{AnyValue}
use Rattle.log_values.specs.declared.any_value.AnyValue.TheVariants as values
use Rattle.log_values.specs.declared.mid_value.MidValue.TheVariants.{Batch}
use Rattle.log_values.specs.declared.entry.Entry.{Entry}
use Rattle.log_values.specs.declared.fact.Fact.{Fact}
use Rattle.log_values.specs.declared.fact.Fact.TheVariants as facts
use Rattle.log_values.specs.Fields.{FitsBallot, IsClient, IsSeq}
use Rattle.frames.specs.declared.message.Msg.{Msg}
use Rattle.frames.specs.declared.message.Msg.TheVariants as msgs
use Rattle.tier_model.specs.declared.turn.Turn.{Turn as Answer}
use Rattle.tier_model.specs.declared.turn.Fault.{Fault}
use Rattle.tier_model.specs.declared.turn.Fault.TheVariants as faults
use Rattle.frames.specs.Frames.{frame, FitsFrame}
use Rattle.frames.specs.LogMessages.{IsCarried}
use Rattle.round_model.specs.Service.{is_request}
use Rattle.round_model.specs.Tables.{tables0}
use Rattle.round_model.specs.Held.{none_held}
use Rattle.round_model.specs.Shims.{new_shim}
use Rattle.tier_model.specs.Moves.{is_node_of, Packet, Move}
use Rattle.tier_model.specs.Kinds.{State, Kind, mid_kind, back_kind}
use Rattle.tier_model.specs.Mid.{Mid}
use Rattle.tier_model.specs.Back.{Back}
use Rattle.run_model.specs.BookingRuns.{booking_service}
use Rattle.run_model.specs.Resolving as resolving

-- A MIDDLE NODE

-- its log, and the pending entry of each client by its number
pub record MidPart : Type 0 where
  pub log : LogState AnyValue
  pub pending : List (Option Entry)

-- at the node x of 2u+1: no round is applied, no token, answer or Have is there, and nothing was run
abbrev pub as_mid : ℕ → ℕ → ℕ → MidPart → Mid
as_mid u x depth part = record { log = part.log; applied = 0; tables = tables0 depth; pending = part.pending; tally = []; spec = None; held = none_held u x }

-- a batch at its position
abbrev pub IsBatchAt : ℕ → AnyValue → Type 0
IsBatchAt p (values.Mid (Batch entries)) = IsCarried tiers.Mid p (values.Mid (Batch entries))
IsBatchAt p v = ⊥

-- A BACKEND NODE

-- no call or floor came
abbrev pub as_back : ℕ → Tier → LogState AnyValue → Back Amounts
as_back u t log = record { log = log; state = (booking_service.backend t).opening; shim = new_shim u }

-- no value stands in a backend's log
abbrev pub NoValue : ℕ → AnyValue → Type 0
NoValue p v = ⊥

-- WHAT CAN COME

-- a value that the tier's log can have at this position while nothing is run
abbrev pub CanStand : Tier → ℕ → AnyValue → Type 0
CanStand tiers.Mid p v = IsBatchAt p v
CanStand tiers.Inv p v = NoValue p v
CanStand tiers.Pay p v = NoValue p v

-- a message of another node's log
abbrev pub IsLogMessage : Tier → PaxMsg AnyValue → Type 0
IsLogMessage t m = IsMessageIn (CanStand t) FitsBallot m

-- a fact that a node of the tier can write while nothing is run: it is one of its log
abbrev pub CanWrite : Tier → Fact → Type 0
CanWrite t (facts.Promised b) = FitsBallot b
CanWrite t (facts.Accepted p b v) = FitsBallot b × CanStand t p v
CanWrite t (facts.Learned p v) = CanStand t p v
CanWrite t (facts.Held tier number code) = ⊥

-- such facts, where so many positions were learned before them
pub record StandIn (t : Tier) (first : ℕ) (written : List Fact) : Type 0 where
  pub fit : FactsFit t first written
  pub can : AllByRecursion (CanWrite t) written

-- each of the lists of records is one that a node of the tier can have written
pub record AllStand (t : Tier) (lists : List (List (List Fact))) : Type 0 where
  pub fit : EachFits t lists
  pub can : (k : ℕ) (rs : List (List Fact)) → slice_get lists k ≡ Some rs → AllByRecursion (CanWrite t) (all_facts rs)

-- a client's request
abbrev pub IsAsked : End → ℕ → List ℕ → Type 0
IsAsked (Client c) seq text = IsClient c × (IsSeq seq × (is_request booking_service.programs (record { client = c; seq = seq }) text ≡ true))
IsAsked (Node n) seq text = ⊥

-- requests go to the middle tier
abbrev pub IsAskedOf : Tier → End → ℕ → List ℕ → Type 0
IsAskedOf tiers.Mid from seq text = IsAsked from seq text
IsAskedOf tiers.Inv from seq text = ⊥
IsAskedOf tiers.Pay from seq text = ⊥

-- What can reach a node while nothing is run: the messages of its own tier's log, and requests a middle one.
abbrev pub CanReach : ℕ → End → Tier → Msg → Type 0
CanReach u from t (msgs.Log m) = (is_node_of u t from ≡ true) × IsLogMessage t m
CanReach u from t (msgs.Request seq text) = IsAskedOf t from seq text
CanReach u from t (msgs.Reply who text) = ⊥
CanReach u from t (msgs.Token r token order) = ⊥
CanReach u from t (msgs.Call n text) = ⊥
CanReach u from t (msgs.Answer n code) = ⊥
CanReach u from t (msgs.Have v n code) = ⊥
CanReach u from t (msgs.Settle g) = ⊥

-- it goes to a node of the tiers of 2u+1, and can reach it
abbrev pub Reaches : ℕ → End → End → Msg → Type 0
Reaches u from (Node n) message = (n.index < 2 * u + 1) × CanReach u from n.tier message
Reaches u from (Client c) message = ⊥

abbrev pub AllReach : ℕ → List Packet → Type 0
AllReach u packets = (i : ℕ) (k : Packet) → slice_get packets i ≡ Some k → Reaches u k.from k.to k.message

-- EVENTS AT A NODE

-- a packet as it is sent: with whom it goes to, and its bytes
abbrev pub sealed : Packet → End × List ℕ
sealed k = (k.to, frame k.from k.message)

-- each of them is one that its sender can send
abbrev pub AreFit : List Packet → Type 0
AreFit packets = (i : ℕ) (k : Packet) → slice_get packets i ≡ Some k → FitsFrame k.from k.message

-- they fit wherever an event may begin
abbrev pub HaveRoom : {A : Type 0} → List A → Type 0
HaveRoom packets = PACKETS_BEFORE + length packets ≤ PACKETS

-- A node: up with a state, down or gone, and the place of the shut gate that ends its journal, as far as it knows. It is in
-- doubt where its disk may have one record more.
pub record NodePart (S : Type 0) : Type 0 where
  pub mode : Mode S
  pub place : ℕ
  pub doubt : Bool

abbrev pub is_down_in : {S : Type 0} → Mode S → Bool
is_down_in (Up s) = false
is_down_in Down = true
is_down_in Gone = false

abbrev pub is_up : {S : Type 0} → NodePart S → Bool
is_up part = resolving.is_up part.mode

-- a node before its first start, on a blank disk
abbrev pub new_part : {S : Type 0} → NodePart S
new_part = record { mode = Down; place = 0; doubt = false }

-- What a call with these facts did to the disk of its node, whose journal's gate was there. No facts are no record. At Ok
-- the record is on the disk, and no stop was armed for it. Where the disk failed it stands for the old records, or these
-- and the new one, and an armed stop that was met tells which. Want of memory says nothing.
abbrev pub Wrote : DiskState → DiskState → ℕ → ℕ → List Fact → Result Answer Fault → Type 0
Wrote old new at now facts (Ok answer) = ((rs : List (List Fact)) → old.tells ≡ true → HasFacts rs old at → HasFacts (recorded rs facts) new now)
    × (writes facts ≡ true → old.armed ≤ 4 → old.armed ≡ 0) × (writes facts ≡ false → new ≡ old)
Wrote old new at now facts (Err (faults.JournalFull size)) = new ≡ old
Wrote old new at now facts (Err faults.Disk) = (writes facts ≡ true) × ((new.stopped ≡ true) ⊎ Rose old.faults new.faults)
    × ((rs : List (List Fact)) → old.tells ≡ true → HasFacts rs old at → StandsFor (old_or_new rs facts) new
    × (old.stopped ≡ false → new.stopped ≡ true → IsCut rs facts old new))
Wrote old new at now facts (Err faults.Memory) = Unit {0}
Wrote old new at now facts (Err (faults.BadRecord place)) = ⊥

-- The node makes the move: its state, its journal's length, its packets and its answer are the move's. Where the journal
-- would pass its limit, or the disk failed, the node goes down and sends nothing. Want of memory says nothing.
abbrev pub Makes : {S T : Type 0} → (S → T) → NodePart S → NodePart S → List (End × List ℕ) → List (End × List ℕ) → Move T → Result Answer Fault → Type 0
Makes {S = S} whole old new sent_before sent_after move (Ok answer) = (is_past (old.place + 1) move.facts ≡ false)
    × ((s : S) × (new.mode ≡ Up s) × (whole s ≡ move.state))
    × (new.place + 1 ≡ length_with (old.place + 1) move.facts) × (new.doubt ≡ old.doubt)
    × (sent_after ≡ sent_before ++ map sealed move.sends) × AreFit move.sends × (answer ≡ move.answer)
Makes whole old new sent_before sent_after move (Err (faults.JournalFull size)) = (is_past (old.place + 1) move.facts
    ≡ true) × (new.mode ≡ Down) × (new.place ≡ old.place) × (new.doubt ≡ old.doubt) × (sent_after ≡ sent_before)
Makes whole old new sent_before sent_after move (Err faults.Disk) = (is_past (old.place + 1) move.facts ≡ false)
    × (new.mode ≡ Down) × (new.place ≡ old.place) × (new.doubt ≡ true) × (sent_after ≡ sent_before)
Makes whole old new sent_before sent_after move (Err faults.Memory) = Unit {0}
Makes whole old new sent_before sent_after move (Err (faults.BadRecord at)) = ⊥

-- the disk of a node that is up tells just some records, with the shut gate at the node's place
abbrev pub MayWrite : {S : Type 0} → NodePart S → DiskState → Type 0
MayWrite part disk = disk.tells ≡ true → (rs : List (List Fact)) × HasFacts rs disk part.place

-- THE NODES

-- What contracts see of a node: its tier of 2 * faults + 1, the depth of its pipeline (a backend has none), its index, and
-- its part.
pub record View (S : Type 0) : Type 0 where
  pub faults : ℕ
  pub tier : Tier
  pub depth : ℕ
  pub me : ℕ
  pub part : NodePart S

abbrev pub MidView : Type 0
MidView = View MidPart

abbrev pub BackView : Type 0
BackView = View (LogState AnyValue)

-- what nodes of a kind have in memory: their states and rows
pub record Shape (S T : Type 0) : Type 0 where
  pub whole : View S → S → T
  pub log : S → LogState AnyValue
  pub log_in : T → LogState AnyValue
  pub rows : View S → Kind T

abbrev pub mid_shape : Shape MidPart Mid
mid_shape = record {
  whole = λ v. as_mid v.faults v.me v.depth;
  log = λ part. part.log;
  log_in = λ σ. σ.log;
  rows = λ v. mid_kind v.faults booking_service.programs v.depth v.me;
}

abbrev pub back_shape : Shape (LogState AnyValue) (Back Amounts)
back_shape = record {
  whole = λ v. as_back v.faults v.tier;
  log = λ log. log;
  log_in = λ σ. σ.log;
  rows = λ v. back_kind v.faults (booking_service.backend v.tier) v.tier v.me;
}

-- those of a tier
abbrev pub PartOf : Tier → Type 0
PartOf tiers.Mid = MidPart
PartOf tiers.Inv = LogState AnyValue
PartOf tiers.Pay = LogState AnyValue

abbrev pub shape : (t : Tier) → Shape (PartOf t) (State Amounts t)
shape tiers.Mid = mid_shape
shape tiers.Inv = back_shape
shape tiers.Pay = back_shape

-- which log is open where
abbrev pub open_in : {S T : Type 0} → Shape S T → S → ℕ
open_in k s = open_at (k.log s)

-- all but its part stays
abbrev pub IsSameView : {S : Type 0} → View S → View S → Type 0
IsSameView old new = (new.faults ≡ old.faults) × ((new.tier ≡ old.tier) × ((new.depth ≡ old.depth) × (new.me ≡ old.me)))

-- A call of a node that is up makes the move, and its facts are written down before. What the move sends reaches nodes, and
-- has room.
pub record Moves {S T : Type 0} (k : Shape S T) (old new : View S) (disk_before disk_after : DiskState)
    (before after : List (End × List ℕ)) (move : T → Move T) (result : Result Answer Fault) : Type 0 where
  pub row : (s : S) → old.part.mode ≡ Up s → Makes (k.whole old) old.part new.part before after (move (k.whole old s)) result
  pub disk : (s : S) → old.part.mode ≡ Up s → Wrote disk_before disk_after old.part.place new.part.place (move (k.whole old s)).facts result
  pub later : Later disk_before disk_after
  pub reach : OnOk result ((s : S) → old.part.mode ≡ Up s → AllReach old.faults (move (k.whole old s)).sends)
  pub few : OnOk result ((s : S) → old.part.mode ≡ Up s → HaveRoom (move (k.whole old s)).sends)
  pub fits : (s : S) → old.part.mode ≡ Up s → StandIn old.tier (open_in k s) (move (k.whole old s)).facts
  pub opens : (s : S) → old.part.mode ≡ Up s → open_at (k.log_in (move (k.whole old s)).state) ≡ open_after_all (open_in k s) (move (k.whole old s)).facts
  pub same : IsSameView old new

abbrev pub MidMoves : MidView → MidView → DiskState → DiskState → List (End × List ℕ) → List (End × List ℕ) → (Mid → Move Mid) → Result Answer Fault → Type 0
MidMoves old new disk_before disk_after before after move result = Moves mid_shape old new disk_before disk_after before after move result

abbrev pub BackMoves : BackView → BackView → DiskState → DiskState → List (End × List ℕ) → List (End × List ℕ)
    → (Back Amounts → Move (Back Amounts)) → Result Answer Fault → Type 0
BackMoves old new disk_before disk_after before after move result = Moves back_shape old new disk_before disk_after before after move result

-- RESTARTS

-- Which list a restart reads: where the node is in doubt and its journal is longer than it knew, the one with the record more.
abbrev pub list_found : Bool → ℕ → ℕ → ℕ
list_found doubt known found = if doubt && nat_lt known found then 1 else 0

-- A node that is down restarts on a disk that stands for lists of records which a node of the tier can have written. It comes
-- up with what one of them leaves, and the disk has that one then. Where the disk fails the node stays down, and the disk
-- stands for the same lists. Want of memory says nothing.
abbrev pub Reads : {S T : Type 0} → Tier → (S → T) → (S → ℕ) → (List Fact → T) → NodePart S → NodePart S → DiskState
    → DiskState → List (List (List Fact)) → Result ℕ Fault → Type 0
Reads {S = S} t whole open_of recover old new before after lists (Ok list) = (k : ℕ) × (rs : List (List Fact)) × (slice_get lists k ≡ Some rs)
    × ((s : S) × (new.mode ≡ Up s) × (whole s ≡ recover (newest rs)) × (open_of s ≡ open_after_all 0 (all_facts rs)))
    × (new.doubt ≡ false) × HasFacts rs after new.place × (list ≡ list_found old.doubt old.place new.place)
Reads t whole open_of recover old new before after lists (Err faults.Disk) = (new ≡ old) × StandsFor lists after
    × ((after.stopped ≡ true) ⊎ Rose before.faults after.faults)
Reads t whole open_of recover old new before after lists (Err faults.Memory) = Unit {0}
Reads t whole open_of recover old new before after lists (Err (faults.JournalFull size)) = ⊥
Reads t whole open_of recover old new before after lists (Err (faults.BadRecord at)) = ⊥

-- the disk stands for lists of records of which each can be a node's of the tier
abbrev pub MayRead : Tier → DiskState → Type 0
MayRead t disk = (lists : List (List (List Fact))) × StandsFor lists disk × AllStand t lists

pub record Restarts {S T : Type 0} (k : Shape S T) (old new : View S) (before after : DiskState) (result : Result ℕ Fault) : Type 0 where
  pub reads : (lists : List (List (List Fact))) → StandsFor lists before → AllStand old.tier lists
      → Reads old.tier (k.whole old) (open_in k) (k.rows old).recovered old.part new.part before after lists result
  pub later : Later before after
  pub same : IsSameView old new

abbrev pub MidRestarts : MidView → MidView → DiskState → DiskState → Result ℕ Fault → Type 0
MidRestarts old new before after result = Restarts mid_shape old new before after result

abbrev pub BackRestarts : BackView → BackView → DiskState → DiskState → Result ℕ Fault → Type 0
BackRestarts old new before after result = Restarts back_shape old new before after result

-- DOWN, GONE, AND WITHOUT DOUBT

abbrev pub goes_down : {S : Type 0} → NodePart S → NodePart S
goes_down part = record { mode = Down; place = part.place; doubt = part.doubt }

abbrev pub is_wiped : {S : Type 0} → NodePart S → NodePart S
is_wiped part = record { mode = Gone; place = part.place; doubt = false }

abbrev pub is_sure_now : {S : Type 0} → NodePart S → NodePart S
is_sure_now part = record { mode = part.mode; place = part.place; doubt = false }

-- a node with another part
abbrev pub view_with : {S : Type 0} → (NodePart S → NodePart S) → View S → View S
view_with change v = record { faults = v.faults; tier = v.tier; depth = v.depth; me = v.me; part = change v.part }
