-- Three tiers, their clients, and all packets ever sent: what an event makes of them.
use Rattle.std.specs.Prelude.{ℕ, zero, suc, ◌+◌, ◌*◌, Bool, true, ◌&&◌, ◌||◌, not, ◌==◌, nat_lt, nat_le, List, [], ◌∷◌}
use Rattle.std.specs.Prelude.{◌++◌, Option, Some, None, slice_get, if◌then◌else◌}
use Rattle.aeg_base.specs.declared.limits.TheConstants.{JOURNAL_BYTES}
use Rattle.aeg_base.specs.declared.names.Tier.{Tier}
use Rattle.aeg_base.specs.declared.names.Tier.TheVariants.{Mid, Inv, Pay}
use Rattle.aeg_base.specs.declared.names.End.{End}
use Rattle.aeg_base.specs.declared.names.End.TheVariants.{Node, Client}
use Rattle.server_model.specs.Server.{same_tier}
use Rattle.server_model.specs.History.{History}
use Rattle.log_model.specs.Log.{LogState, nobody}
use Rattle.log_model.specs.Nodes.{Mode, Node as NodeOf, Device, put, stands, writes, moved, sent, crashed, restarted}
use Rattle.log_model.specs.Nodes.Mode.{Up, Down, Gone}
use Rattle.log_model.specs.Nodes.Device.{Fine as WasFine, CutKeep, CutDrop, Fault as WasFault}
use Rattle.log_values.specs.declared.any_value.AnyValue.{AnyValue}
use Rattle.log_values.specs.declared.entry.Entry.{Entry}
use Rattle.log_values.specs.declared.fact.Fact.{Fact}
use Rattle.frames.specs.declared.message.Msg.{Msg}
use Rattle.frames.specs.declared.message.Msg.TheVariants as msgs
use Rattle.round_model.specs.Lists.{is_some, each}
use Rattle.round_model.specs.Service.{Service, is_request}
use Rattle.round_model.specs.Verdicts.{Vote}
use Rattle.tier_model.specs.Moves.{node, Packet, Move}
use Rattle.tier_model.specs.Kinds.{State, Kind, kind}
use Rattle.tier_model.specs.Mid.{Mid as MidState}
use Rattle.tier_model.specs.MidRows as mids
use Rattle.run_model.specs.declared.trace.Fared.{Fared}
use Rattle.run_model.specs.declared.trace.Fared.TheVariants.{Fine, Cut, Fault}
use Rattle.run_model.specs.declared.trace.Found.{Found}
use Rattle.run_model.specs.declared.trace.Found.TheVariants.{Reads, Fault as Fails}
use Rattle.run_model.specs.declared.trace.TraceEvent.{TraceEvent}
use Rattle.run_model.specs.declared.trace.TraceEvent.TheVariants.{Submit, Deliver, Short, Lead, Offer, Work, Retry, Crash, Restart, Wipe}

-- what a run is made with: the tiers' size, the depth of the pipeline, the service, and the lengths of frames and records
pub record Config (B : Type 0) : Type 0 where
  pub u : ℕ
  pub depth : ℕ
  pub service : Service B
  pub frame_length : End → Msg → ℕ
  pub record_length : List Fact → ℕ

-- a client end: its last number, and the text of its open request, which has that number
pub record ClientEnd : Type 0 where
  pub last : ℕ
  pub opened : Option (List ℕ)

-- the nodes of each tier
abbrev pub Nodes : Type 0 → Type 0
Nodes B = (t : Tier) → ℕ → NodeOf (State B t) Fact

-- Beside the nodes, the clients and the packets it has the chosen logs, the history, the runs, what was submitted, and
-- the replies that client ends took.
pub record World (B : Type 0) : Type 0 where
  pub nodes : Nodes B
  pub clients : ℕ → ClientEnd
  pub soup : List Packet
  pub logs : Tier → List AnyValue
  pub hist : History
  pub runs : List Vote
  pub submitted : List Entry
  pub told : List Entry

abbrev pub put_tier : {A : Type 0} → (Tier → A) → Tier → A → Tier → A
put_tier f t a v = if same_tier v t then a else f v

-- the nodes with those of one tier
abbrev pub put_nodes : {B : Type 0} → Nodes B → (t : Tier) → (ℕ → NodeOf (State B t) Fact) → Nodes B
put_nodes f Mid g Mid = g
put_nodes f Mid g Inv = f Inv
put_nodes f Mid g Pay = f Pay
put_nodes f Inv g Mid = f Mid
put_nodes f Inv g Inv = g
put_nodes f Inv g Pay = f Pay
put_nodes f Pay g Mid = f Mid
put_nodes f Pay g Inv = f Inv
put_nodes f Pay g Pay = g

-- all nodes are down, on blank disks
abbrev pub start : {B : Type 0} → World B
start = record {
  nodes = λ t x. stands Down [];
  clients = λ x. record { last = 0; opened = None };
  soup = [];
  logs = λ t. [];
  hist = [];
  runs = [];
  submitted = [];
  told = [];
}

-- HOW THE DEVICE FARES

-- a journal's length: a gate, and for each record its gate and its length in front
abbrev pub journal_length : (List Fact → ℕ) → List (List Fact) → ℕ
journal_length bytes [] = 1
journal_length bytes (r ∷ rs) = journal_length bytes rs + (5 + bytes r)

-- a cut at the third or fourth call keeps the record, where what was written stays
abbrev pub device_of : Fared → Device
device_of Fine = WasFine
device_of (Cut nth keep) = if keep && nat_le 3 nth then CutKeep else CutDrop
device_of Fault = WasFault

-- the record of these facts would pass the journal's limit
abbrev pub is_past : {B : Type 0} → Config B → List (List Fact) → List Fact → Bool
is_past c records facts = writes facts && nat_lt JOURNAL_BYTES (journal_length c.record_length records + (5 + c.record_length facts))

-- such a record is not written, and the node goes down
abbrev pub fate : {B : Type 0} → Config B → Fared → List (List Fact) → List Fact → Device
fate c fared records facts = if is_past c records facts then CutDrop else device_of fared

-- an event that writes nothing meets no device
abbrev pub unwritten : List (List Fact) → List Fact → Device
unwritten records facts = WasFine

-- a write or sync is one of the four of an event
abbrev pub can_fare : Fared → Bool
can_fare Fine = true
can_fare (Cut nth keep) = nat_le 1 nth && nat_le nth 4
can_fare Fault = true

-- NODES

-- the rows of a node
abbrev pub kind_at : {B : Type 0} → Config B → (t : Tier) → ℕ → Kind (State B t)
kind_at c t x = kind c.u c.service c.depth t x

-- the log of a node's state
abbrev pub log_at : {B : Type 0} → Config B → (t : Tier) → State B t → LogState AnyValue
log_at c Mid σ = σ.log
log_at c Inv σ = σ.log
log_at c Pay σ = σ.log

abbrev pub with_node : {B : Type 0} → World B → (t : Tier) → ℕ → NodeOf (State B t) Fact → List Packet → List Vote → World B
with_node w t x n ks vs = record w { nodes = put_nodes w.nodes t (put (w.nodes t) x n); soup = w.soup ++ ks; runs = w.runs ++ vs }

-- how an event's device fares, by the journal's records and the facts to write
abbrev pub Fate : Type 0
Fate = List (List Fact) → List Fact → Device

abbrev pub node_up : {B : Type 0} → World B → (t : Tier) → ℕ → Fate → (State B t → Move (State B t)) → (State B t → List Vote) → Mode (State B t) → World B
node_up w t x d move ran (Up σ) =
    with_node w t x (moved (w.nodes t x) (d (w.nodes t x).records (move σ).facts) (move σ).state (move σ).facts)
    (sent (d (w.nodes t x).records (move σ).facts) (move σ).facts (move σ).sends) (ran σ)
node_up w t x d move ran Down = w
node_up w t x d move ran Gone = w

-- the move at a node that is up, and what it ran
abbrev pub at_node : {B : Type 0} → Config B → World B → (t : Tier) → ℕ → Fate → (State B t → Move (State B t)) → (State B t → List Vote) → World B
at_node c w t x d move ran = if nat_lt x (2 * c.u + 1) then node_up w t x d move ran (w.nodes t x).mode else w

-- a move without a run
abbrev pub moves : {B : Type 0} → Config B → World B → (t : Tier) → ℕ → Fate → (State B t → Move (State B t)) → World B
moves c w t x d move = at_node c w t x d move (λ σ. [])

-- a node of the tier is put in its place
abbrev pub placed : {B : Type 0} → Config B → World B → (t : Tier) → ℕ → NodeOf (State B t) Fact → World B
placed c w t x n = if nat_lt x (2 * c.u + 1) then with_node w t x n [] [] else w

-- CLIENT ENDS

abbrev pub request_to : ℕ → ℕ → List ℕ → ℕ → Packet
request_to client seq text y = record { from = Client client; to = node Mid y; message = msgs.Request seq text }

-- a request goes to each middle node
abbrev pub requests : ℕ → ℕ → ℕ → List ℕ → List Packet
requests u client seq text = each (2 * u + 1) nobody (request_to client seq text)

abbrev pub opens : {B : Type 0} → ℕ → World B → ℕ → List ℕ → World B
opens u w y text = record w {
  clients = put w.clients y (record { last = suc (w.clients y).last; opened = Some text });
  soup = w.soup ++ requests u y (suc (w.clients y).last) text;
  submitted = w.submitted ++ record { client = y; seq = suc (w.clients y).last; body = text } ∷ [];
}

abbrev pub is_client_number : ℕ → Bool
is_client_number y = nat_le 1 y && nat_le y 16

-- a client without an open request opens its next one
abbrev pub submits : {B : Type 0} → Config B → World B → ℕ → List ℕ → World B
submits c w y text =
    if is_client_number y && (is_request c.service.programs (record { client = y; seq = suc (w.clients y).last }) text
    && (not (is_some (w.clients y).opened) && nat_lt (w.clients y).last 65536)) then opens c.u w y text
    else w

-- the open request is sent again
abbrev pub reopens : {B : Type 0} → Config B → World B → ℕ → Option (List ℕ) → World B
reopens c w y None = w
reopens c w y (Some text) = record w { soup = w.soup ++ requests c.u y (w.clients y).last text }

-- a reply with the open number closes the request
abbrev pub takes_reply : {B : Type 0} → World B → ℕ → ℕ → List ℕ → World B
takes_reply w y seq text =
    if is_some (w.clients y).opened && (seq == (w.clients y).last) then record w {
      clients = put w.clients y (record { last = (w.clients y).last; opened = None });
      told = w.told ++ record { client = y; seq = seq; body = text } ∷ [];
    }
    else w

abbrev pub client_gets : {B : Type 0} → World B → ℕ → Msg → World B
client_gets w y (msgs.Reply who text) = takes_reply w y who.seq text
client_gets w y (msgs.Log p) = w
client_gets w y (msgs.Request seq text) = w
client_gets w y (msgs.Token r token order) = w
client_gets w y (msgs.Call n text) = w
client_gets w y (msgs.Answer n code) = w
client_gets w y (msgs.Have t n code) = w
client_gets w y (msgs.Settle g) = w

-- DELIVERIES

abbrev pub node_gets : {B : Type 0} → Config B → World B → Fared → End → Msg → Tier → ℕ → World B
node_gets c w fared from message t x = moves c w t x (fate c fared) ((kind_at c t x).on_frame from message)

abbrev pub arrives : {B : Type 0} → Config B → World B → Fared → End → Msg → End → World B
arrives c w fared from message (Node n) = node_gets c w fared from message n.tier n.index
arrives c w fared from message (Client y) = client_gets w y message

abbrev pub delivered : {B : Type 0} → Config B → World B → Fared → Option Packet → World B
delivered c w fared None = w
delivered c w fared (Some k) = arrives c w fared k.from k.message k.to

-- cut to its first bytes a frame is refused, and whole where it has no more than these
abbrev pub shortened : {B : Type 0} → Config B → World B → Fared → ℕ → Option Packet → World B
shortened c w fared bytes None = w
shortened c w fared bytes (Some k) = if nat_le (c.frame_length k.from k.message) bytes then arrives c w fared k.from k.message k.to else w

-- COMMANDS

abbrev pub leads : {B : Type 0} → Config B → World B → Fared → Tier → ℕ → World B
leads c w fared t x = moves c w t x (fate c fared) (kind_at c t x).leads

abbrev pub offers : {B : Type 0} → Config B → World B → Fared → Tier → ℕ → World B
offers c w fared t x = moves c w t x (fate c fared) (kind_at c t x).offers

abbrev pub the_run : Option mids.Running → List Vote
the_run None = []
the_run (Some r) = r.vote ∷ []

-- what a work runs
abbrev pub ran : {B : Type 0} → Config B → ℕ → List ℕ → MidState → List Vote
ran c x schedule σ = the_run (mids.work_run c.u c.service.programs x σ schedule)

-- only middle nodes work
abbrev pub works : {B : Type 0} → Config B → World B → Tier → ℕ → List ℕ → World B
works c w Mid x schedule = at_node c w Mid x unwritten (λ σ. mids.work c.u c.service.programs x σ schedule) (ran c x schedule)
works c w Inv x schedule = w
works c w Pay x schedule = w

abbrev pub node_retries : {B : Type 0} → Config B → World B → Tier → ℕ → World B
node_retries c w t x = moves c w t x unwritten (kind_at c t x).retry

abbrev pub retries : {B : Type 0} → Config B → World B → End → World B
retries c w (Node n) = node_retries c w n.tier n.index
retries c w (Client y) = reopens c w y (w.clients y).opened

-- CRASH, RESTART, WIPE

abbrev pub crashes : {B : Type 0} → Config B → World B → Tier → ℕ → World B
crashes c w t x = placed c w t x (crashed (w.nodes t x) (w.nodes t x).mode)

-- the number of the list that a restart reads
abbrev pub list_of : Found → Option ℕ
list_of (Reads k) = Some k
list_of Fails = None

abbrev pub restarts : {B : Type 0} → Config B → World B → Found → Tier → ℕ → World B
restarts c w found t x = placed c w t x (restarted (kind_at c t x).recovered (w.nodes t x) (list_of found) (w.nodes t x).mode)

abbrev pub wipes : {B : Type 0} → Config B → World B → Tier → ℕ → World B
wipes c w t x = placed c w t x (stands Gone [])

-- EVENTS

abbrev pub if_can : {B : Type 0} → Fared → World B → World B → World B
if_can fared new w = if can_fare fared then new else w

-- an event; one that names what isn't there changes nothing
abbrev pub happens : {B : Type 0} → Config B → World B → TraceEvent → World B
happens c w (Submit y text) = submits c w y text
happens c w (Deliver k fared) = if_can fared (delivered c w fared (slice_get w.soup k)) w
happens c w (Short k bytes fared) = if_can fared (shortened c w fared bytes (slice_get w.soup k)) w
happens c w (Lead n fared) = if_can fared (leads c w fared n.tier n.index) w
happens c w (Offer n fared) = if_can fared (offers c w fared n.tier n.index) w
happens c w (Work n schedule) = works c w n.tier n.index schedule
happens c w (Retry end) = retries c w end
happens c w (Crash n) = crashes c w n.tier n.index
happens c w (Restart n found) = restarts c w found n.tier n.index
happens c w (Wipe n) = wipes c w n.tier n.index
