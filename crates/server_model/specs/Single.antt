-- The lines that `single` reads, and what it writes for a whole input. A line is refused by the first of: 2, its first
-- word is unknown; 3, its words, their number or a range are wrong; 5, the text of a start isn't a request.
use Rattle.std.specs.Prelude.{ℕ, ◌+◌, ◌==◌, List, [], ◌∷◌, ◌++◌, length, map, Option, None, Some, codes, if◌then◌else◌, option_and_then}
use Rattle.std.specs.Option.{option_map}
use Rattle.std.specs.Str.{bytes_eq}
use Rattle.std.specs.List.{join_with_byte}
use Rattle.std.specs.Fmt.{decimal}
use Rattle.std.specs.declared.result.Result.{Result}
use Rattle.std.specs.declared.result.Result.TheVariants.{Ok, Err}
use Rattle.aeg_base.specs.declared.names.ReqId.{ReqId}
use Rattle.aeg_base.specs.declared.names.Tier.{Tier}
use Rattle.aeg_base.specs.declared.names.Tier.TheVariants.{Mid, Inv, Pay}
use Rattle.server_model.specs.Words.{parts_of, words_of, number_in}
use Rattle.server_model.specs.Requests.{request_of}
use Rattle.server_model.specs.Booking.{booking_table}
use Rattle.server_model.specs.Backends.{Amounts, no_amounts, serve_at}
use Rattle.server_model.specs.Server.{Meaning, Server, Step, Refused, Goes, opening_server, step}
use Rattle.server_model.specs.declared.history.Hist.{Hist}
use Rattle.server_model.specs.declared.history.Hist.TheVariants.{Start, Serve, Resume}
use Rattle.server_model.specs.declared.history.Numbered.{Numbered}
use Rattle.server_model.specs.declared.history.Told.{Told}
use Rattle.server_model.specs.declared.history.Told.TheVariants.{Replied, Called, Answered}
use Rattle.server_model.specs.declared.request.Request.{Request}

-- the one server of the booking service with its inventory and payment
abbrev pub booking_meaning : Meaning Amounts
booking_meaning = record { table = booking_table; opening = λ tier. no_amounts; serve = serve_at }

-- LINES

-- a line is passed over, is refused by a rule, or is a step
pub data Line : Type 0 where
  Skips : Line
  Bad : (row : ℕ) → Line
  Steps : (hist : Hist) → (body : List ℕ) → Line

-- CLIENT.SEQ
abbrev pub who_in : List (List ℕ) → Option ReqId
who_in (client ∷ seq ∷ []) = option_and_then (λ c. option_map (λ s. record { client = c; seq = s }) (number_in 1 65536 seq)) (number_in 1 16 client)
who_in _ = None

abbrev pub call_number_in : List ℕ → Option ℕ
call_number_in word = number_in 0 1000000 word

abbrev pub tier_in : List ℕ → Option Tier
tier_in word = if bytes_eq word (codes "inv") then Some Inv else if bytes_eq word (codes "pay") then Some Pay else None

abbrev pub started_with : ReqId → ℕ → List ℕ → Result Request ℕ → Line
started_with who number body (Ok request) = Steps (Start who number) body
started_with who number body (Err row) = Bad 5

abbrev pub start_with : Option ReqId → Option ℕ → List ℕ → Line
start_with (Some who) (Some number) body = if length body == 0 then Bad 3 else started_with who number body (request_of body)
start_with _ _ body = Bad 3

-- start CLIENT.SEQ NUMBER REQUEST, the request being all that follows
abbrev pub start_in : List (List ℕ) → Line
start_in (who ∷ number ∷ request ∷ more) =
    start_with (who_in (parts_of 46 who)) (call_number_in number) (join_with_byte 32 (request ∷ more))
start_in _ = Bad 3

abbrev pub serve_with : Option Tier → Option ℕ → Line
serve_with (Some tier) (Some number) = Steps (Serve tier number) []
serve_with _ _ = Bad 3

-- serve TIER NUMBER
abbrev pub serve_in : List (List ℕ) → Line
serve_in (tier ∷ number ∷ []) = serve_with (tier_in tier) (number_in 1 1000000 number)
serve_in _ = Bad 3

abbrev pub resume_with : Option ReqId → Option ℕ → Line
resume_with (Some who) (Some number) = Steps (Resume who number) []
resume_with _ _ = Bad 3

-- resume CLIENT.SEQ NUMBER
abbrev pub resume_in : List (List ℕ) → Line
resume_in (who ∷ number ∷ []) = resume_with (who_in (parts_of 46 who)) (call_number_in number)
resume_in _ = Bad 3

abbrev pub command_in : List (List ℕ) → Line
command_in [] = Bad 2
command_in (first ∷ further) =
    if bytes_eq first (codes "start") then start_in further
    else if bytes_eq first (codes "serve") then serve_in further
    else if bytes_eq first (codes "resume") then resume_in further
    else Bad 2

-- an empty line and one that begins with # are passed over
abbrev pub line_of : List ℕ → Line
line_of [] = Skips
line_of (c ∷ cs) = if c == 35 then Skips else command_in (words_of (c ∷ cs))

-- the last line feed may be missing
abbrev pub ended_lines : List (List ℕ) → List (List ℕ)
ended_lines [] = []
ended_lines (x ∷ []) = if length x == 0 then [] else x ∷ []
ended_lines (x ∷ y ∷ more) = x ∷ ended_lines (y ∷ more)

abbrev pub lines_of : List ℕ → List (List ℕ)
lines_of input = ended_lines (parts_of 10 input)

-- THE WHOLE INPUT

-- the steps of an input, or the first line that is refused, with its rule
pub data Judged : Type 0 where
  Reads : (steps : List Numbered) → Judged
  Fails : (line : ℕ) → (row : ℕ) → Judged

abbrev pub with_first : List Numbered → Judged → Judged
with_first front (Reads steps) = Reads (front ++ steps)
with_first front (Fails line row) = Fails line row

abbrev pub judged : ℕ → Line → Judged → Judged
judged line Skips rest = rest
judged line (Bad row) rest = Fails line row
judged line (Steps hist body) rest = with_first (record { line = line; hist = hist; body = body } ∷ []) rest

-- lines are counted from 1
abbrev pub judge : ℕ → List (List ℕ) → Judged
judge line [] = Reads []
judge line (l ∷ ls) = judged line (line_of l) (judge (line + 1) ls)

abbrev pub judgement : List ℕ → Judged
judgement input = judge 1 (lines_of input)

-- the history that the steps are
abbrev pub history_of : List Numbered → List (Hist × List ℕ)
history_of steps = map (λ x. (x.hist, x.body)) steps

-- TEXT

abbrev pub tier_name : Tier → List ℕ
tier_name Mid = codes "mid"
tier_name Inv = codes "inv"
tier_name Pay = codes "pay"

abbrev pub told_line : Told → List ℕ
told_line (Replied who text) = codes "reply " ++ (decimal who.client ++ (codes "." ++ (decimal who.seq ++ (codes " " ++ (text ++ codes "\n")))))
told_line (Called tier number text) = codes "call " ++ (tier_name tier ++ (codes " " ++ (decimal number ++ (codes " " ++ (text ++ codes "\n")))))
told_line (Answered tier number code) = codes "answer " ++ (tier_name tier ++ (codes " " ++ (decimal number ++ (codes " " ++ (decimal code ++ codes "\n")))))

abbrev pub steps_line : ℕ → List ℕ
steps_line count = codes "steps " ++ (decimal count ++ codes "\n")

-- what the steps tell up to the first that is refused, and its line and rule
pub record Outcome : Type 0 where
  pub text : List ℕ
  pub refused : Option (ℕ × ℕ)

abbrev pub then_told : List ℕ → Outcome → Outcome
then_told line rest = record { text = line ++ rest.text; refused = rest.refused }

abbrev pub goes_on_with : {B : Type 0} → Step B → ℕ → (Server B → Outcome) → Outcome
goes_on_with (Refused row) line rest = record { text = []; refused = Some (line, row) }
goes_on_with (Goes new told) line rest = then_told (told_line told) (rest new)

abbrev pub run_from : {B : Type 0} → Meaning B → List Numbered → Server B → Outcome
run_from m [] s = record { text = []; refused = None }
run_from m (x ∷ xs) s = goes_on_with (step m s x.hist x.body) x.line (run_from m xs)

abbrev pub run_of : List Numbered → Outcome
run_of steps = run_from booking_meaning steps (opening_server booking_meaning)
