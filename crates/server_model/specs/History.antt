-- Histories: lists of steps, each with the text of its request, and what the one server makes of them.
use Rattle.std.specs.Prelude.{ℕ, List, [], ◌∷◌, ◌++◌}
use Rattle.aeg_base.specs.declared.names.ReqId.{ReqId}
use Rattle.aeg_base.specs.declared.names.Tier.{Tier}
use Rattle.server_model.specs.Server.{Meaning, Server, Step, Refused, Goes, opening_server, step}
use Rattle.server_model.specs.declared.history.Hist.{Hist}
use Rattle.server_model.specs.declared.history.Told.{Told}

abbrev pub History : Type 0
History = List (Hist × List ℕ)

-- the server after a step; a refused step changes nothing
abbrev pub server_or : {B : Type 0} → Server B → Step B → Server B
server_or s (Refused row) = s
server_or s (Goes new told) = new

abbrev pub server_from : {B : Type 0} → Meaning B → History → Server B → Server B
server_from m [] s = s
server_from m (x ∷ xs) s = server_from m xs (server_or s (step m s x.0 x.1))

abbrev pub server_after : {B : Type 0} → Meaning B → History → Server B
server_after m h = server_from m h (opening_server m)

abbrev pub IsMade : {B : Type 0} → Step B → Type 0
IsMade (Refused row) = ⊥
IsMade (Goes new told) = Unit {0}

abbrev pub LegalFrom : {B : Type 0} → Meaning B → History → Server B → Type 0
LegalFrom m [] s = Unit {0}
LegalFrom m (x ∷ xs) s = IsMade (step m s x.0 x.1) × LegalFrom m xs (server_or s (step m s x.0 x.1))

-- no step is refused from the opening server
abbrev pub Legal : {B : Type 0} → Meaning B → History → Type 0
Legal m h = LegalFrom m h (opening_server m)

-- the replies, calls and answers of a history, in its order
abbrev pub replies : {B : Type 0} → Meaning B → History → List (ReqId × List ℕ)
replies m h = (server_after m h).replies

abbrev pub calls : {B : Type 0} → Meaning B → History → List (Tier × ℕ × List ℕ)
calls m h = (server_after m h).calls

abbrev pub served : {B : Type 0} → Meaning B → History → List (Tier × ℕ × ℕ)
served m h = (server_after m h).served

abbrev pub told_by : {B : Type 0} → Step B → List Told
told_by (Refused row) = []
told_by (Goes new told) = told ∷ []

-- what the steps tell, in order
abbrev pub told_from : {B : Type 0} → Meaning B → History → Server B → List Told
told_from m [] s = []
told_from m (x ∷ xs) s = told_by (step m s x.0 x.1) ++ told_from m xs (server_or s (step m s x.0 x.1))

abbrev pub told : {B : Type 0} → Meaning B → History → List Told
told m h = told_from m h (opening_server m)
