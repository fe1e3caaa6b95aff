-- What a step of the server answers.
use Rattle.std.specs.Prelude.{◌≡◌, ℕ, List, [], ◌∷◌, ◌++◌}
use Rattle.std.specs.declared.result.Result.{Result}
use Rattle.std.specs.declared.result.Result.TheVariants.{Ok, Err}
use Rattle.aeg_base.specs.Store.{Store}
use Rattle.aeg_base.specs.declared.names.ReqId.{ReqId}
use Rattle.aeg_base.specs.declared.names.Tier.{Tier}
use Rattle.svc_api.specs.Requests.{IsRequest}
use Rattle.server_model.specs.Server.{Server, Step, Goes, Refused, called}
use Rattle.server_model.specs.declared.history.Hist.{Hist}
use Rattle.server_model.specs.declared.history.Hist.TheVariants.{Start, Serve, Resume}
use Rattle.server_model.specs.declared.history.Told.{Told}
use Rattle.server_model.specs.declared.history.Told.TheVariants.{Called, Answered}
use Rattle.server_model.specs.declared.progress.Progress.{Progress}
use Rattle.one_server.specs.declared.refusal.StepErr.{StepErr}
use Rattle.one_server.specs.declared.refusal.StepErr.TheVariants.{Illegal, Memory}

-- the definition's step goes to the new server and tells this, or is refused by this rule; after an error nothing has
-- changed
abbrev pub Answers : {B : Type 0} → Step B → Server B → Server B → Result Told StepErr → Type 0
Answers step old new (Ok told) = step ≡ Goes new told
Answers step old new (Err (Illegal row)) = (step ≡ Refused row) × (new ≡ old)
Answers step old new (Err Memory) = new ≡ old

-- the request's client and number are ones that there are
abbrev pub IsNamed : Hist → Type 0
IsNamed (Start who number) = IsRequest who
IsNamed (Serve tier number) = Unit {0}
IsNamed (Resume who number) = IsRequest who

-- the request waits for its call, or nothing has changed
abbrev pub Calls : {B : Type 0} → Server B → Server B → ReqId → Progress → Store → List ℕ → Result Told StepErr → Type 0
Calls old new who progress store text (Ok told) = (new
    ≡ called old who progress.body progress.number store progress.tier progress.stage text)
    × (told ≡ Called progress.tier progress.number text)
Calls old new who progress store text (Err (Illegal row)) = ⊥
Calls old new who progress store text (Err Memory) = new ≡ old

-- a call was served by a backend that left this state with this code, or nothing has changed
abbrev pub Serves : {B : Type 0} → Tier → ℕ → B → ℕ → List (Tier × ℕ × ℕ) → List (Tier × ℕ × ℕ) → B → B → Result Told StepErr → Type 0
Serves tier number state code old new before now (Ok told) = (told ≡ Answered tier number code) × ((new ≡ old ++ (tier, number, code) ∷ []) × (now ≡ state))
Serves tier number state code old new before now (Err (Illegal row)) = ⊥
Serves tier number state code old new before now (Err Memory) = (new ≡ old) × (now ≡ before)
