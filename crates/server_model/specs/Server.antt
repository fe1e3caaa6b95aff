-- One server that interleaves requests at nested calls: its state, and what a step does to it. It runs each segment
-- whole and at once, and has no messages, replicas or rounds.
use Rattle.std.specs.Prelude.{ℕ, ◌+◌, ◌==◌, ◌&&◌, Bool, true, false, List, [], ◌∷◌, ◌++◌, replicate, slice_index}
use Rattle.std.specs.Prelude.{slice_index_or, slice_set, Option, None, Some, if◌then◌else◌}
use Rattle.aeg_base.specs.Store.{Store, empty}
use Rattle.aeg_base.specs.declared.names.ReqId.{ReqId}
use Rattle.aeg_base.specs.declared.names.Tier.{Tier}
use Rattle.aeg_base.specs.declared.names.Tier.TheVariants.{Mid, Inv, Pay}
use Rattle.svc_api.specs.Segment.{Segment}
use Rattle.svc_api.specs.declared.action.Ending.{Ending}
use Rattle.svc_api.specs.declared.action.Ending.TheVariants as ends
use Rattle.server_model.specs.Backends.{Served}
use Rattle.server_model.specs.declared.history.Hist.{Hist}
use Rattle.server_model.specs.declared.history.Hist.TheVariants.{Start, Serve, Resume}
use Rattle.server_model.specs.declared.history.Told.{Told}
use Rattle.server_model.specs.declared.history.Told.TheVariants.{Replied, Called, Answered}
pub use Rattle.server_model.specs.declared.progress.Progress.{Progress}

-- what the server runs: the service's table, and the backends, whose states are of the type B
pub record Meaning (B : Type 0) : Type 0 where
  pub table : ReqId → List ℕ → ℕ → Option (Option ℕ → Store → Segment)
  pub opening : Tier → B
  pub serve : Tier → B → List ℕ → Served B

-- last and progress are by client, who are numbered from 1. A call has its tier, number and text, a served one its code;
-- calls, served ones and replies are in the order of the steps.
pub record Server (B : Type 0) : Type 0 where
  pub store : Store
  pub last : List ℕ
  pub progress : List (Option Progress)
  pub calls : List (Tier × ℕ × List ℕ)
  pub served : List (Tier × ℕ × ℕ)
  pub inventory : B
  pub payment : B
  pub replies : List (ReqId × List ℕ)

abbrev pub opening_server : {B : Type 0} → Meaning B → Server B
opening_server m = record {
  store = empty;
  last = replicate 17 0;
  progress = replicate 17 None;
  calls = [];
  served = [];
  inventory = m.opening Inv;
  payment = m.opening Pay;
  replies = [];
}

-- LOOKING UP

abbrev pub same_tier : Tier → Tier → Bool
same_tier Mid Mid = true
same_tier Inv Inv = true
same_tier Pay Pay = true
same_tier a b = false

abbrev pub last_of : {B : Type 0} → Server B → ℕ → ℕ
last_of s client = slice_index s.last client

abbrev pub progress_of : {B : Type 0} → Server B → ℕ → Option Progress
progress_of s client = slice_index_or s.progress client None

-- what the tier's first item with this number has
abbrev pub found_in : {T : Type 0} → List (Tier × ℕ × T) → Tier → ℕ → Option T
found_in [] tier number = None
found_in (item ∷ items) tier number = if same_tier item.0 tier && (item.1 == number) then Some item.2 else found_in items tier number

-- the text of a call
abbrev pub text_of : {B : Type 0} → Server B → Tier → ℕ → Option (List ℕ)
text_of s tier number = found_in s.calls tier number

-- the code of a call, where it was served
abbrev pub code_of : {B : Type 0} → Server B → Tier → ℕ → Option ℕ
code_of s tier number = found_in s.served tier number

abbrev pub backend_of : {B : Type 0} → Server B → Tier → B
backend_of s Pay = s.payment
backend_of s tier = s.inventory

-- STEPS

-- a step is refused by a rule, or goes on and tells something
pub data Step (B : Type 0) : Type 0 where
  Refused : (row : ℕ) → Step B
  Goes : (server : Server B) → (told : Told) → Step B

-- the request has a reply
abbrev pub replied : {B : Type 0} → Server B → ReqId → Store → List ℕ → Server B
replied s who store text = record s {
  store = store;
  last = slice_set s.last who.client who.seq;
  progress = slice_set s.progress who.client None;
  replies = s.replies ++ (who, text) ∷ [];
}

-- the request waits for its call
abbrev pub called : {B : Type 0} → Server B → ReqId → List ℕ → ℕ → Store → Tier → ℕ → List ℕ → Server B
called s who body number store tier stage text = record s {
  store = store;
  last = slice_set s.last who.client who.seq;
  progress = slice_set s.progress who.client (Some (record { seq = who.seq; body = body; stage = stage; tier = tier; number = number }));
  calls = s.calls ++ (tier, number, text) ∷ [];
}

-- A call is given its number: 8, an earlier call of the tier has it.
abbrev pub calls_with : {B : Type 0} → Server B → ReqId → List ℕ → ℕ → Store → Tier → ℕ → List ℕ → Option (List ℕ) → Step B
calls_with s who body number store tier stage text (Some earlier) = Refused 8
calls_with s who body number store tier stage text None = Goes (called s who body number store tier stage text) (Called tier number text)

-- A segment of the request ran: 7, its number is 0 though it calls, or isn't though it replies.
abbrev pub ended : {B : Type 0} → Server B → ReqId → List ℕ → ℕ → Store → Ending → Step B
ended s who body number store (ends.Reply text) = if number == 0 then Goes (replied s who store text) (Replied who text) else Refused 7
ended s who body number store (ends.Call tier stage text) =
    if number == 0 then Refused 7 else calls_with s who body number store tier stage text (text_of s tier number)

-- 3, the text is no request
abbrev pub starts : {B : Type 0} → Server B → ReqId → List ℕ → ℕ → Option (Option ℕ → Store → Segment) → Step B
starts s who body number None = Refused 3
starts s who body number (Some segment) = ended s who body number (segment None s.store).store (segment None s.store).ending

-- 1, the request isn't the client's next; 2, the client has one in progress
abbrev pub start : {B : Type 0} → Meaning B → Server B → ReqId → ℕ → List ℕ → Option Progress → Step B
start m s who number body (Some progress) = Refused 2
start m s who number body None = starts s who body number (m.table who body 0)

abbrev pub with_backend : {B : Type 0} → Server B → Tier → ℕ → Served B → Server B
with_backend s Pay number served = record s { served = s.served ++ (Pay, number, served.code) ∷ []; payment = served.state }
with_backend s tier number served = record s { served = s.served ++ (tier, number, served.code) ∷ []; inventory = served.state }

-- 4, no call with this number is there that wasn't served
abbrev pub serves : {B : Type 0} → Meaning B → Server B → Tier → ℕ → Option (List ℕ) → Option ℕ → Step B
serves m s tier number None code = Refused 4
serves m s tier number (Some text) (Some code) = Refused 4
serves m s tier number (Some text) None =
    Goes (with_backend s tier number (m.serve tier (backend_of s tier) text)) (Answered tier number (m.serve tier (backend_of s tier) text).code)

-- 5, the request has no such stage
abbrev pub goes_on : {B : Type 0} → Server B → ReqId → List ℕ → ℕ → ℕ → Option (Option ℕ → Store → Segment) → Step B
goes_on s who body number code None = Refused 5
goes_on s who body number code (Some segment) = ended s who body number (segment (Some code) s.store).store (segment (Some code) s.store).ending

-- 6, its call wasn't served
abbrev pub resumes : {B : Type 0} → Meaning B → Server B → ReqId → ℕ → Progress → Option ℕ → Step B
resumes m s who number progress None = Refused 6
resumes m s who number progress (Some code) = goes_on s who progress.body number code (m.table who progress.body progress.stage)

-- 5, the request isn't in progress
abbrev pub resume : {B : Type 0} → Meaning B → Server B → ReqId → ℕ → Option Progress → Step B
resume m s who number None = Refused 5
resume m s who number (Some progress) =
    if progress.seq == who.seq then resumes m s who number progress (code_of s progress.tier progress.number) else Refused 5

-- The body is looked at by a start alone.
abbrev pub step : {B : Type 0} → Meaning B → Server B → Hist → List ℕ → Step B
step m s (Start who number) body = if who.seq == last_of s who.client + 1 then start m s who number body (progress_of s who.client) else Refused 1
step m s (Serve tier number) body = serves m s tier number (text_of s tier number) (code_of s tier number)
step m s (Resume who number) body = resume m s who number (progress_of s who.client)
