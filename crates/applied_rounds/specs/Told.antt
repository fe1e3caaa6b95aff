-- What a round tells once it is applied.
use Rattle.std.specs.Prelude.{ℕ, List, [], ◌∷◌, Option, Some, None}
use Rattle.svc_api.specs.declared.action.Ending.{Ending}
use Rattle.svc_api.specs.declared.action.Ending.TheVariants as ends
use Rattle.round_model.specs.Lists.{OfTiers, of_tier}
use Rattle.round_model.specs.Tables.{Number, Want, bump}
use Rattle.applied_rounds.specs.declared.told.Told.{Told}
use Rattle.applied_rounds.specs.declared.told.Told.TheVariants.{Reply, Call}
use Rattle.applied_rounds.specs.declared.told.Applying.{Applying}
use Rattle.applied_rounds.specs.declared.told.Applying.TheVariants.{Applied, NoAnswer, Misfit}

-- the replies and the calls of a round, in job order
abbrev pub tolds : OfTiers ℕ → List Want → List Ending → List Told
tolds next [] es = []
tolds next (w ∷ ws) [] = []
tolds next (w ∷ ws) (ends.Reply text ∷ es) = Reply (record { client = w.client; seq = w.seq }) text ∷ tolds next ws es
tolds next (w ∷ ws) (ends.Call t stage text ∷ es) = Call t (of_tier next t) text ∷ tolds (bump next t) ws es

abbrev pub told_in : Applying → Option (List Told)
told_in (Applied told) = Some told.items
told_in (NoAnswer tier num) = None
told_in Misfit = None

-- the call whose answer isn't held
abbrev pub missing_in : Applying → Option Number
missing_in (Applied told) = None
missing_in (NoAnswer tier num) = Some (record { tier = tier; num = num })
missing_in Misfit = None
