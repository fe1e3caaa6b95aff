-- The text of a run: what each event prints, and the closing lines.
use Rattle.std.specs.Prelude.{ℕ, ◌+◌, ◌==◌, ◌&&◌, nat_lt, nat_le, Bool, true, false, List, [], ◌∷◌, ◌++◌, drop, length}
use Rattle.std.specs.Prelude.{map, codes, Option, Some, None, slice_get, if◌then◌else◌}
use Rattle.std.specs.List.{flat_map, join_with_byte}
use Rattle.std.specs.Fmt.{decimal}
use Rattle.aeg_base.specs.declared.names.Tier.{Tier}
use Rattle.aeg_base.specs.declared.names.Tier.TheVariants.{Mid, Inv, Pay}
use Rattle.aeg_base.specs.declared.names.NodeId.{NodeId}
use Rattle.aeg_base.specs.declared.names.End.{End}
use Rattle.aeg_base.specs.declared.names.End.TheVariants.{Node, Client}
use Rattle.aeg_base.specs.declared.names.ReqId.{ReqId}
use Rattle.server_model.specs.Single.{tier_name}
use Rattle.server_model.specs.History.{History}
use Rattle.server_model.specs.declared.history.Hist.{Hist}
use Rattle.server_model.specs.declared.history.Hist.TheVariants.{Start, Serve, Resume}
use Rattle.log_model.specs.Nodes.{Mode, Node as NodeOf, is_well}
use Rattle.log_model.specs.Nodes.Mode.{Up, Down, Gone}
use Rattle.log_values.specs.declared.any_value.AnyValue.{AnyValue}
use Rattle.log_values.specs.declared.any_value.AnyValue.TheVariants as values
use Rattle.log_values.specs.declared.mid_value.MidValue.TheVariants.{Batch, Verdict as Decided}
use Rattle.log_values.specs.declared.mid_value.Verdict.{Verdict}
use Rattle.log_values.specs.declared.mid_value.Verdict.TheVariants.{Commit, Serial}
use Rattle.log_values.specs.declared.fact.Fact.{Fact}
use Rattle.frames.specs.declared.header.Refused.{Refused}
use Rattle.frames.specs.declared.header.Refused.TheVariants as refusals
use Rattle.frames.specs.declared.message.Msg.{Msg}
use Rattle.frames.specs.declared.message.Msg.TheVariants as msgs
use Rattle.tier_model.specs.declared.turn.Idle.{Idle}
use Rattle.tier_model.specs.declared.turn.Idle.TheVariants as why
use Rattle.tier_model.specs.declared.turn.RunNote.{RunNote}
use Rattle.tier_model.specs.declared.turn.Turn.{Turn}
use Rattle.tier_model.specs.declared.turn.Turn.TheVariants.{Did, Ran, Dropped, Idle as Idles}
use Rattle.round_model.specs.Lists.{is_some, half}
use Rattle.tier_model.specs.Moves.{Packet, Move}
use Rattle.tier_model.specs.MidRows as mids
use Rattle.run_model.specs.declared.trace.Fared.{Fared}
use Rattle.run_model.specs.declared.trace.Fared.TheVariants.{Fine, Cut, Fault}
use Rattle.run_model.specs.declared.trace.Found.{Found}
use Rattle.run_model.specs.declared.trace.Found.TheVariants.{Reads, Fault as Fails}
use Rattle.run_model.specs.declared.trace.TraceEvent.{TraceEvent}
use Rattle.run_model.specs.declared.trace.TraceEvent.TheVariants.{Submit, Deliver, Short, Lead, Offer, Work, Retry, Crash, Restart, Wipe}
use Rattle.run_model.specs.World.{Config, World, kind_at, start, is_past, fate, can_fare, happens}
use Rattle.run_model.specs.Runs.{grows}

-- WORDS

-- a word, and the rest of the line
abbrev pub then_word : List ℕ → List ℕ → List ℕ
then_word word rest = word ++ 32 ∷ rest

abbrev pub line_end : List ℕ
line_end = codes "\n"

abbrev pub tier_letter : Tier → List ℕ
tier_letter Mid = codes "m"
tier_letter Inv = codes "i"
tier_letter Pay = codes "p"

-- m0, i1, p4
abbrev pub node_name : NodeId → List ℕ
node_name n = tier_letter n.tier ++ decimal n.index

abbrev pub client_name : ℕ → List ℕ
client_name y = codes "c" ++ decimal y

abbrev pub end_name : End → List ℕ
end_name (Node n) = node_name n
end_name (Client y) = client_name y

-- CLIENT.SEQ
abbrev pub request_name : ReqId → List ℕ
request_name who = decimal who.client ++ 46 ∷ decimal who.seq

-- numbers with a space between, - where there is none
abbrev pub or_dash : List (List ℕ) → List ℕ
or_dash [] = codes "-"
or_dash (word ∷ words) = join_with_byte 32 (word ∷ words)

abbrev pub numbers_text : List ℕ → List ℕ
numbers_text numbers = or_dash (map decimal numbers)

-- a segment and how many steps it makes on end
abbrev pub item_text : ℕ → ℕ → List ℕ
item_text segment times = decimal segment ++ 120 ∷ decimal times

abbrev pub items_from : ℕ → ℕ → List ℕ → List (List ℕ)
items_from segment times [] = item_text segment times ∷ []
items_from segment times (s ∷ steps) = if s == segment then items_from segment (times + 1) steps else item_text segment times ∷ items_from s 1 steps

abbrev pub items_of : List ℕ → List (List ℕ)
items_of [] = []
items_of (s ∷ steps) = items_from s 1 steps

-- steps as items SxK
abbrev pub steps_text : List ℕ → List ℕ
steps_text steps = or_dash (items_of steps)

-- WHAT A NODE SAYS

abbrev pub cause_text : Idle → List ℕ
cause_text why.BallotSpent = codes "ballot-spent"
cause_text why.NotLeader = codes "not-leader"
cause_text (why.NoPromises have) = codes "no-promises " ++ decimal have
cause_text (why.InFlight p) = codes "in-flight " ++ decimal p
cause_text why.LogFull = codes "log-full"
cause_text (why.Unapplied r) = codes "unapplied " ++ decimal r
cause_text (why.NoTokens have) = codes "no-tokens " ++ decimal have
cause_text why.Nothing = codes "nothing"
cause_text why.NoBatch = codes "no-batch"
cause_text (why.NoAnswer t n) = then_word (codes "no-answer") (then_word (tier_name t) (decimal n))
cause_text (why.Stale b) = codes "stale"
cause_text (why.Behind p) = codes "behind " ++ decimal p

-- idle END CAUSE
abbrev pub idle_line : List ℕ → List ℕ → List ℕ
idle_line name cause = then_word (codes "idle") (then_word name (cause ++ line_end))

-- down NODE FAULT
abbrev pub down_line : List ℕ → List ℕ → List ℕ
down_line name fault = then_word (codes "down") (then_word name (fault ++ line_end))

-- gone NODE
abbrev pub gone_line : List ℕ → List ℕ
gone_line name = then_word (codes "gone") (name ++ line_end)

-- none PACKET, lost PACKET
abbrev pub none_line : ℕ → List ℕ
none_line k = then_word (codes "none") (decimal k ++ line_end)

abbrev pub lost_line : ℕ → List ℕ
lost_line k = then_word (codes "lost") (decimal k ++ line_end)

abbrev pub refusal_text : Refused → List ℕ
refusal_text refusals.Short = codes "short"
refusal_text (refusals.Row row) = codes "row " ++ decimal row

-- drop END REFUSAL
abbrev pub drop_line : List ℕ → Refused → List ℕ
drop_line name refusal = then_word (codes "drop") (then_word name (refusal_text refusal ++ line_end))

-- exec NODE ROUND steps ITEMS order LIST redo COUNT
abbrev pub exec_line : List ℕ → RunNote → List ℕ
exec_line name note = then_word (codes "exec") (then_word name (then_word (decimal note.round) (then_word (codes "steps") (then_word (steps_text note.steps)
    (then_word (codes "order") (then_word (numbers_text note.order) (then_word (codes "redo") (decimal note.redo ++ line_end))))))))

-- what a frame's handling prints
abbrev pub tells_frame : List ℕ → Turn → List ℕ
tells_frame name (Dropped refusal) = drop_line name refusal
tells_frame name Did = []
tells_frame name (Ran note) = []
tells_frame name (Idles cause) = []

-- what a command prints
abbrev pub tells_command : List ℕ → Turn → List ℕ
tells_command name (Idles cause) = idle_line name (cause_text cause)
tells_command name (Ran note) = exec_line name note
tells_command name Did = []
tells_command name (Dropped refusal) = []

-- AN EVENT AT A NODE

-- the record would pass the journal's limit, or how the device fared
abbrev pub fault_text : Bool → Fared → List ℕ
fault_text true fared = codes "full"
fault_text false Fine = []
fault_text false (Cut nth keep) = codes "cut"
fault_text false Fault = codes "disk"

-- the node's answer, or why it goes down
abbrev pub moves_text : {B S : Type 0} → Config B → NodeId → Fared → List (List Fact) → (List ℕ → Turn → List ℕ) → Move S → List ℕ
moves_text c n fared records tells v =
    if is_well (fate c fared records v.facts) v.facts then tells (node_name n) v.answer
    else down_line (node_name n) (fault_text (is_past c records v.facts) fared)

-- a command needs a node that is up
abbrev pub commands_text : {B S : Type 0} → Config B → NodeId → Fared → NodeOf S Fact → (S → Move S) → Mode S → List ℕ
commands_text c n fared node move (Up s) = moves_text c n fared node.records tells_command (move s)
commands_text c n fared node move Down = idle_line (node_name n) (codes "down")
commands_text c n fared node move Gone = gone_line (node_name n)

-- so does a packet
abbrev pub frames_text : {B S : Type 0} → Config B → NodeId → ℕ → Fared → NodeOf S Fact → (S → Move S) → Mode S → List ℕ
frames_text c n k fared node move (Up s) = moves_text c n fared node.records tells_frame (move s)
frames_text c n k fared node move Down = lost_line k
frames_text c n k fared node move Gone = lost_line k

-- PACKETS

abbrev pub node_frame_text : {B : Type 0} → Config B → World B → ℕ → Fared → End → Msg → NodeId → Tier → List ℕ
node_frame_text c w k fared from message n t = frames_text c n k fared (w.nodes t n.index)
    ((kind_at c t n.index).on_frame from message) (w.nodes t n.index).mode

-- reply CLIENT.SEQ TEXT
abbrev pub reply_line : ReqId → List ℕ → List ℕ
reply_line who text = then_word (codes "reply") (then_word (request_name who) (text ++ line_end))

abbrev pub takes_reply_text : {B : Type 0} → World B → ℕ → ReqId → List ℕ → List ℕ
takes_reply_text w y who text = if is_some (w.clients y).opened
    && (who.seq == (w.clients y).last) then reply_line (record { client = y; seq = who.seq }) text else []

-- a client takes replies alone
abbrev pub client_frame_text : {B : Type 0} → World B → ℕ → Msg → List ℕ
client_frame_text w y (msgs.Reply who text) = takes_reply_text w y who text
client_frame_text w y (msgs.Log p) = drop_line (client_name y) (refusals.Row 7)
client_frame_text w y (msgs.Request seq text) = drop_line (client_name y) (refusals.Row 7)
client_frame_text w y (msgs.Token r token order) = drop_line (client_name y) (refusals.Row 7)
client_frame_text w y (msgs.Call n text) = drop_line (client_name y) (refusals.Row 7)
client_frame_text w y (msgs.Answer n code) = drop_line (client_name y) (refusals.Row 7)
client_frame_text w y (msgs.Have t n code) = drop_line (client_name y) (refusals.Row 7)
client_frame_text w y (msgs.Settle g) = drop_line (client_name y) (refusals.Row 7)

abbrev pub arrives_text : {B : Type 0} → Config B → World B → ℕ → Fared → Packet → End → List ℕ
arrives_text c w k fared packet (Node n) = node_frame_text c w k fared packet.from packet.message n n.tier
arrives_text c w k fared packet (Client y) = client_frame_text w y packet.message

abbrev pub delivers_text : {B : Type 0} → Config B → World B → ℕ → Fared → Option Packet → List ℕ
delivers_text c w k fared None = none_line k
delivers_text c w k fared (Some packet) = arrives_text c w k fared packet packet.to

-- a frame that is cut short is refused, where there is somebody to refuse it
abbrev pub refuses_text : {S : Type 0} → ℕ → NodeId → Mode S → List ℕ
refuses_text k n (Up s) = drop_line (node_name n) refusals.Short
refuses_text k n Down = lost_line k
refuses_text k n Gone = lost_line k

abbrev pub node_refuses_text : {B : Type 0} → World B → ℕ → NodeId → Tier → List ℕ
node_refuses_text w k n t = refuses_text k n (w.nodes t n.index).mode

abbrev pub cut_short_text : {B : Type 0} → World B → ℕ → End → List ℕ
cut_short_text w k (Node n) = node_refuses_text w k n n.tier
cut_short_text w k (Client y) = drop_line (client_name y) refusals.Short

abbrev pub shorts_text : {B : Type 0} → Config B → World B → ℕ → ℕ → Fared → Option Packet → List ℕ
shorts_text c w k bytes fared None = none_line k
shorts_text c w k bytes fared (Some packet) =
    if nat_le (c.frame_length packet.from packet.message) bytes then arrives_text c w k fared packet packet.to else cut_short_text w k packet.to

-- COMMANDS

abbrev pub leads_text : {B : Type 0} → Config B → World B → Fared → NodeId → Tier → List ℕ
leads_text c w fared n t = commands_text c n fared (w.nodes t n.index) (kind_at c t n.index).leads (w.nodes t n.index).mode

abbrev pub offers_text : {B : Type 0} → Config B → World B → Fared → NodeId → Tier → List ℕ
offers_text c w fared n t = commands_text c n fared (w.nodes t n.index) (kind_at c t n.index).offers (w.nodes t n.index).mode

abbrev pub works_text : {B : Type 0} → Config B → World B → List ℕ → NodeId → Tier → List ℕ
works_text c w schedule n Mid = commands_text c n Fine (w.nodes Mid n.index)
    (λ s. mids.work c.u c.service.programs n.index s schedule) (w.nodes Mid n.index).mode
works_text c w schedule n Inv = []
works_text c w schedule n Pay = []

abbrev pub node_retries_text : {B : Type 0} → Config B → World B → NodeId → Tier → List ℕ
node_retries_text c w n t = commands_text c n Fine (w.nodes t n.index) (kind_at c t n.index).retry (w.nodes t n.index).mode

abbrev pub retries_text : {B : Type 0} → Config B → World B → End → List ℕ
retries_text c w (Node n) = node_retries_text c w n n.tier
retries_text c w (Client y) = if is_some (w.clients y).opened then [] else idle_line (client_name y) (cause_text why.Nothing)

-- busy CLIENT
abbrev pub submits_text : {B : Type 0} → World B → ℕ → List ℕ
submits_text w y = if is_some (w.clients y).opened then then_word (codes "busy") (decimal y ++ line_end) else []

-- CRASH, RESTART, WIPE

abbrev pub crash_text : {S : Type 0} → List ℕ → Mode S → List ℕ
crash_text name (Up s) = []
crash_text name Down = idle_line name (codes "down")
crash_text name Gone = gone_line name

abbrev pub found_text : List ℕ → Found → List ℕ
found_text name (Reads list) = []
found_text name Fails = down_line name (codes "disk")

abbrev pub restart_text : {S : Type 0} → List ℕ → Found → Mode S → List ℕ
restart_text name found (Up s) = idle_line name (codes "up")
restart_text name found Down = found_text name found
restart_text name found Gone = gone_line name

abbrev pub wipe_text : {S : Type 0} → List ℕ → Mode S → List ℕ
wipe_text name (Up s) = []
wipe_text name Down = []
wipe_text name Gone = gone_line name

-- EVENTS

abbrev pub if_can : Fared → List ℕ → List ℕ
if_can fared text = if can_fare fared then text else []

-- an event's own line
abbrev pub own_text : {B : Type 0} → Config B → World B → TraceEvent → List ℕ
own_text c w (Submit y text) = submits_text w y
own_text c w (Deliver k fared) = if_can fared (delivers_text c w k fared (slice_get w.soup k))
own_text c w (Short k bytes fared) = if_can fared (shorts_text c w k bytes fared (slice_get w.soup k))
own_text c w (Lead n fared) = if_can fared (leads_text c w fared n n.tier)
own_text c w (Offer n fared) = if_can fared (offers_text c w fared n n.tier)
own_text c w (Work n schedule) = works_text c w schedule n n.tier
own_text c w (Retry end) = retries_text c w end
own_text c w (Crash n) = crash_text (node_name n) (w.nodes n.tier n.index).mode
own_text c w (Restart n found) = restart_text (node_name n) found (w.nodes n.tier n.index).mode
own_text c w (Wipe n) = wipe_text (node_name n) (w.nodes n.tier n.index).mode

-- WHAT IS CHOSEN

-- verdict ROUND commit order LIST, verdict ROUND serial
abbrev pub verdict_line : ℕ → Verdict → List ℕ
verdict_line r (Commit token order) = then_word (codes "verdict") (then_word (decimal r) (then_word (codes "commit order") (numbers_text order ++ line_end)))
verdict_line r Serial = then_word (codes "verdict") (then_word (decimal r) (codes "serial" ++ line_end))

-- the line of the value at the middle log's position p
abbrev pub chosen_line : ℕ → AnyValue → List ℕ
chosen_line p (values.Mid (Batch entries)) = []
chosen_line p (values.Mid (Decided v)) = verdict_line (half p) v
chosen_line p (values.Back v) = []

abbrev pub chosen_text : ℕ → List AnyValue → List ℕ
chosen_text p [] = []
chosen_text p (v ∷ vs) = chosen_line p v ++ chosen_text (p + 1) vs

-- start CLIENT.SEQ NUMBER REQUEST, serve TIER NUMBER, resume CLIENT.SEQ NUMBER
abbrev pub step_line : Hist → List ℕ → List ℕ
step_line (Start who number) body = then_word (codes "start") (then_word (request_name who) (then_word (decimal number) (body ++ line_end)))
step_line (Serve t number) body = then_word (codes "serve") (then_word (tier_name t) (decimal number ++ line_end))
step_line (Resume who number) body = then_word (codes "resume") (then_word (request_name who) (decimal number ++ line_end))

abbrev pub history_text : History → List ℕ
history_text steps = flat_map (λ step. step_line step.0 step.1) steps

-- the verdict that an event's packets choose, and the steps that the history gains
abbrev pub growth_text : {B : Type 0} → World B → World B → List ℕ
growth_text old new = chosen_text (length (old.logs Mid)) (drop (length (old.logs Mid)) (new.logs Mid)) ++ history_text (drop (length old.hist) new.hist)

abbrev pub after : {B : Type 0} → Config B → World B → TraceEvent → World B
after c w e = grows c (happens c w e)

-- its own line, and then what it lets be chosen
abbrev pub event_text : {B : Type 0} → Config B → World B → TraceEvent → List ℕ
event_text c w e = own_text c w e ++ growth_text w (after c w e)

abbrev pub text_from : {B : Type 0} → Config B → World B → List TraceEvent → List ℕ
text_from c w [] = []
text_from c w (e ∷ es) = event_text c w e ++ text_from c (after c w e) es

-- the text of a run
abbrev pub text : {B : Type 0} → Config B → List TraceEvent → List ℕ
text c es = text_from c start es

-- log TIER LENGTH
abbrev pub log_line : Tier → ℕ → List ℕ
log_line t count = then_word (codes "log") (then_word (tier_name t) (decimal count ++ line_end))

-- how many positions of each tier are chosen, and how many packets were sent
abbrev pub closing : {B : Type 0} → World B → List ℕ
closing w = log_line Mid (length (w.logs Mid))
    ++ (log_line Inv (length (w.logs Inv))
    ++ (log_line Pay (length (w.logs Pay)) ++ then_word (codes "packets") (decimal (length w.soup) ++ line_end)))
