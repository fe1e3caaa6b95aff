-- Scripts as texts. A line is refused by the first of: 2, its first word is unknown; 3, its words, their number or a range
-- are wrong; 4, a node is not in the tiers, or the node that works is no middle node; 5, the text of a submit is no request.
-- Rule 1 is the header's.
use Rattle.std.specs.Prelude.{ℕ, ◌+◌, ◌*◌, ◌==◌, ◌&&◌, ◌||◌, not, nat_lt, nat_le, Bool, true, false, List, [], ◌∷◌}
use Rattle.std.specs.Prelude.{length, Option, None, Some, codes, if◌then◌else◌, option_and_then}
use Rattle.std.specs.Option.{option_map}
use Rattle.std.specs.Str.{bytes_eq}
use Rattle.std.specs.List.{join_with_byte}
use Rattle.std.specs.declared.result.Result.{Result}
use Rattle.std.specs.declared.result.Result.TheVariants.{Ok, Err}
use Rattle.aeg_base.specs.declared.names.NodeId.{NodeId}
use Rattle.aeg_base.specs.declared.names.Tier.{Tier}
use Rattle.aeg_base.specs.declared.names.Tier.TheVariants.{Mid, Inv, Pay}
use Rattle.aeg_base.specs.declared.names.End.{End}
use Rattle.aeg_base.specs.declared.names.End.TheVariants.{Node, Client}
use Rattle.server_model.specs.Words.{parts_of, words_of, number_in}
use Rattle.server_model.specs.Requests.{request_of}
use Rattle.server_model.specs.Single.{lines_of}
use Rattle.server_model.specs.Server.{same_tier}
use Rattle.server_model.specs.declared.request.Request.{Request}
use Rattle.run_model.specs.declared.line.Event.{Event}
use Rattle.run_model.specs.declared.line.Event.TheVariants.{Submit, Deliver, Short, Cut, Lead, Offer, Retry, Work, Crash, Restart, Wipe, Flow, Calm, Lose}
use Rattle.run_model.specs.declared.line.CutLine.{CutLine}
use Rattle.run_model.specs.declared.line.CutLine.TheVariants as cuts

-- WORDS

abbrev pub tier_of_letter : ℕ → Option Tier
tier_of_letter letter = if letter == 109 then Some Mid else if letter == 105 then Some Inv else if letter == 112 then Some Pay else None

-- the letter of a tier and a digit from 0 to 4: m0, i1, p4
abbrev pub node_in : List ℕ → Option NodeId
node_in [] = None
node_in (letter ∷ digits) = option_and_then (λ t. option_map (λ x. record { tier = t; index = x }) (number_in 0 4 digits)) (tier_of_letter letter)

-- the letter c and a number from 1 to 16
abbrev pub client_in : List ℕ → Option ℕ
client_in [] = None
client_in (letter ∷ digits) = if letter == 99 then number_in 1 16 digits else None

abbrev pub end_or_client : Option NodeId → Option ℕ → Option End
end_or_client (Some n) client = Some (Node n)
end_or_client None client = option_map Client client

abbrev pub end_in : List ℕ → Option End
end_in word = end_or_client (node_in word) (client_in word)

abbrev pub packet_in : List ℕ → Option ℕ
packet_in word = number_in 0 65535 word

-- SxK: the segment S, K times
abbrev pub item_of : List (List ℕ) → Option (ℕ × ℕ)
item_of (segment ∷ times ∷ []) = option_and_then (λ s. option_map (λ k. (s, k)) (number_in 1 1024 times)) (number_in 0 31 segment)
item_of _ = None

abbrev pub item_in : List ℕ → Option (ℕ × ℕ)
item_in word = item_of (parts_of 120 word)

-- each of the words is an item
abbrev pub items_in : List (List ℕ) → Option (List (ℕ × ℕ))
items_in [] = Some []
items_in (word ∷ words) = option_and_then (λ item. option_map (λ items. item ∷ items) (items_in words)) (item_in word)

-- LINES, BY THEIR FIRST WORD

-- submit CLIENT REQUEST, the request being all that follows
abbrev pub submit_in : List (List ℕ) → Option Event
submit_in (client ∷ request ∷ more) =
    if length (join_with_byte 32 (request ∷ more)) == 0 then None
    else option_map (λ c. Submit c (join_with_byte 32 (request ∷ more))) (number_in 1 16 client)
submit_in _ = None

-- deliver PACKET
abbrev pub deliver_in : List (List ℕ) → Option Event
deliver_in (packet ∷ []) = option_map (λ k. Deliver k) (packet_in packet)
deliver_in _ = None

-- short PACKET BYTES
abbrev pub short_in : List (List ℕ) → Option Event
short_in (packet ∷ bytes ∷ []) = option_and_then (λ k. option_map (λ n. Short k n) (number_in 0 8198 bytes)) (packet_in packet)
short_in _ = None

-- NODE
abbrev pub at_node : (NodeId → Event) → List (List ℕ) → Option Event
at_node command (node ∷ []) = option_map command (node_in node)
at_node command _ = None

-- retry END
abbrev pub retry_in : List (List ℕ) → Option Event
retry_in (end ∷ []) = option_map (λ e. Retry e) (end_in end)
retry_in _ = None

abbrev pub work_by : List ℕ → List (List ℕ) → Option Event
work_by node [] = None
work_by node (item ∷ items) = option_and_then (λ n. option_map (λ by. Work n (Some by)) (items_in (item ∷ items))) (node_in node)

abbrev pub is_by : List ℕ → Bool
is_by word = bytes_eq word (codes "by")

-- work NODE, or work NODE by ITEM .. with 1 to 1,024 items
abbrev pub work_in : List (List ℕ) → Option Event
work_in [] = None
work_in (node ∷ []) = option_map (λ n. Work n None) (node_in node)
work_in (node ∷ by ∷ items) = if is_by by && nat_le (length items) 1024 then work_by node items else None

-- what can be cut: deliver PACKET, lead NODE, offer NODE
abbrev pub cut_line_in : List (List ℕ) → Option CutLine
cut_line_in (command ∷ word ∷ []) =
    if bytes_eq command (codes "deliver") then option_map (λ k. cuts.Deliver k) (packet_in word)
    else if bytes_eq command (codes "lead") then option_map (λ n. cuts.Lead n) (node_in word)
    else if bytes_eq command (codes "offer") then option_map (λ n. cuts.Offer n) (node_in word)
    else None
cut_line_in _ = None

-- keep or drop
abbrev pub keep_in : List ℕ → Option Bool
keep_in word = if bytes_eq word (codes "keep") then Some true else if bytes_eq word (codes "drop") then Some false else None

-- cut NTH keep LINE, cut NTH drop LINE
abbrev pub cut_in : List (List ℕ) → Option Event
cut_in (nth ∷ keep ∷ line) = option_and_then (λ j. option_and_then (λ k. option_map (λ l. Cut j k l) (cut_line_in line)) (keep_in keep)) (number_in 1 4 nth)
cut_in _ = None

-- a word that stands alone
abbrev pub alone : Event → List (List ℕ) → Option Event
alone event [] = Some event
alone event (word ∷ words) = None

-- the words are those of a command, and an event where rule 3 takes them
abbrev pub event_in : List ℕ → List (List ℕ) → Option (Option Event)
event_in command words =
    if bytes_eq command (codes "submit") then Some (submit_in words)
    else if bytes_eq command (codes "deliver") then Some (deliver_in words)
    else if bytes_eq command (codes "short") then Some (short_in words)
    else if bytes_eq command (codes "cut") then Some (cut_in words)
    else if bytes_eq command (codes "lead") then Some (at_node (λ n. Lead n) words)
    else if bytes_eq command (codes "offer") then Some (at_node (λ n. Offer n) words)
    else if bytes_eq command (codes "retry") then Some (retry_in words)
    else if bytes_eq command (codes "work") then Some (work_in words)
    else if bytes_eq command (codes "crash") then Some (at_node (λ n. Crash n) words)
    else if bytes_eq command (codes "restart") then Some (at_node (λ n. Restart n) words)
    else if bytes_eq command (codes "wipe") then Some (at_node (λ n. Wipe n) words)
    else if bytes_eq command (codes "flow") then Some (alone Flow words)
    else if bytes_eq command (codes "calm") then Some (alone Calm words)
    else if bytes_eq command (codes "lose") then Some (alone Lose words)
    else None

-- RULES 4 AND 5

-- one of the 2u+1 nodes of its tier
abbrev pub is_there : ℕ → NodeId → Bool
is_there u n = nat_lt n.index (2 * u + 1)

abbrev pub is_end : ℕ → End → Bool
is_end u (Node n) = is_there u n
is_end u (Client c) = true

abbrev pub is_cut_there : ℕ → CutLine → Bool
is_cut_there u (cuts.Deliver k) = true
is_cut_there u (cuts.Lead n) = is_there u n
is_cut_there u (cuts.Offer n) = is_there u n

-- the nodes that the event names are in the tiers, and one that works is a middle node
abbrev pub is_placed : ℕ → Event → Bool
is_placed u (Submit client body) = true
is_placed u (Deliver packet) = true
is_placed u (Short packet bytes) = true
is_placed u (Cut nth keep line) = is_cut_there u line
is_placed u (Lead n) = is_there u n
is_placed u (Offer n) = is_there u n
is_placed u (Retry end) = is_end u end
is_placed u (Work n by) = same_tier n.tier Mid && is_there u n
is_placed u (Crash n) = is_there u n
is_placed u (Restart n) = is_there u n
is_placed u (Wipe n) = is_there u n
is_placed u Flow = true
is_placed u Calm = true
is_placed u Lose = true

abbrev pub is_read : Result Request ℕ → Bool
is_read (Ok request) = true
is_read (Err row) = false

-- what is submitted is a request
abbrev pub is_asked : Event → Bool
is_asked (Submit client body) = is_read (request_of body)
is_asked event = true

-- LINES

-- a line is passed over, is refused by a rule, or is an event
pub data Line : Type 0 where
  Skips : Line
  Bad : (row : ℕ) → Line
  Does : (event : Event) → Line

abbrev pub placed : ℕ → Event → Line
placed u event = if not (is_placed u event) then Bad 4 else if not (is_asked event) then Bad 5 else Does event

abbrev pub line_with : ℕ → Option (Option Event) → Line
line_with u None = Bad 2
line_with u (Some None) = Bad 3
line_with u (Some (Some event)) = placed u event

-- The commands and requests of which the program knows nothing yet are refused by rule 9, before the other rules.
abbrev pub is_later_command : List ℕ → Bool
is_later_command command = bytes_eq command (codes "work") || bytes_eq command (codes "calm")

abbrev pub is_later_request : List ℕ → Bool
is_later_request word = bytes_eq word (codes "book") || bytes_eq word (codes "cancel")

abbrev pub is_later_submit : List (List ℕ) → Bool
is_later_submit (client ∷ request ∷ more) = is_later_request request
is_later_submit _ = false

abbrev pub is_later : List ℕ → List (List ℕ) → Bool
is_later command words = is_later_command command || (bytes_eq command (codes "submit") && is_later_submit words)

abbrev pub command_line : ℕ → List ℕ → List (List ℕ) → Line
command_line u command words = if is_later command words then Bad 9 else line_with u (event_in command words)

abbrev pub line_in : ℕ → List (List ℕ) → Line
line_in u [] = Bad 2
line_in u (command ∷ words) = command_line u command words

-- an empty line and one that begins with # are passed over
abbrev pub is_blank : List ℕ → Bool
is_blank [] = true
is_blank (c ∷ cs) = c == 35

abbrev pub line_of : ℕ → List ℕ → Line
line_of u text = if is_blank text then Skips else line_in u (words_of text)

-- WHOLE SCRIPTS

-- an event with its line, counted from 1
abbrev pub Numbered : Type 0
Numbered = ℕ × Event

-- the numbers of the header, and the events
pub record Script : Type 0 where
  pub u : ℕ
  pub depth : ℕ
  pub events : List Numbered

-- the numbers of the header
pub record Header : Type 0 where
  pub u : ℕ
  pub depth : ℕ

abbrev pub header_in : List (List ℕ) → Option Header
header_in (tiers ∷ u ∷ depth ∷ d ∷ []) =
    if bytes_eq tiers (codes "tiers")
    && bytes_eq depth (codes "depth") then option_and_then
    (λ n. option_map (λ k. record { u = n; depth = k }) (number_in 1 4 d)) (number_in 0 2 u)
    else None
header_in _ = None

-- what a list of lines reads as: its events, or the first line that is refused, with its rule
pub data Read (A : Type 0) : Type 0 where
  Reads : (value : A) → Read A
  Fails : (line : ℕ) → (row : ℕ) → Read A

abbrev pub with_event : Numbered → Read (List Numbered) → Read (List Numbered)
with_event event (Reads events) = Reads (event ∷ events)
with_event event (Fails line row) = Fails line row

abbrev pub then_events : ℕ → Line → Read (List Numbered) → Read (List Numbered)
then_events number Skips rest = rest
then_events number (Bad row) rest = Fails number row
then_events number (Does event) rest = with_event (number, event) rest

abbrev pub events_in : ℕ → ℕ → List (List ℕ) → Read (List Numbered)
events_in u number [] = Reads []
events_in u number (line ∷ lines) = then_events number (line_of u line) (events_in u (number + 1) lines)

abbrev pub script_by : Header → Read (List Numbered) → Read Script
script_by header (Reads events) = Reads (record { u = header.u; depth = header.depth; events = events })
script_by header (Fails line row) = Fails line row

abbrev pub headed : Option Header → ℕ → List (List ℕ) → Read Script
headed None number lines = Fails number 1
headed (Some header) number lines = script_by header (events_in header.u (number + 1) lines)

-- the first line that isn't passed over is the header; where there is none, the line behind the last one is named
abbrev pub script_from : ℕ → List (List ℕ) → Read Script
script_from number [] = Fails number 1
script_from number (line ∷ lines) = if is_blank line then script_from (number + 1) lines else headed (header_in (words_of line)) number lines

abbrev pub script_of : List ℕ → Read Script
script_of input = script_from 1 (lines_of input)
