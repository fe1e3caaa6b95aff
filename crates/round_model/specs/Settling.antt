-- What a verdict makes of a job.
use Rattle.std.specs.Prelude.{Bool, true, false, ◌&&◌, List, [], ◌∷◌, length, Option, Some, None, if◌then◌else◌}
use Rattle.svc_api.specs.declared.action.Ending.{Ending}
use Rattle.svc_api.specs.declared.action.Ending.TheVariants.{Reply, Call}
use Rattle.log_values.specs.declared.mid_value.Verdict.{Verdict}
use Rattle.log_values.specs.declared.mid_value.Verdict.TheVariants.{Commit, Serial}
use Rattle.round_model.specs.Lists.{and_then, below}
use Rattle.round_model.specs.Service.{Programs, has_stage, Finish, finish, finish_by}
use Rattle.round_model.specs.Tables.{Tables, Want, Codes, job_of}

-- a call among the ends has a stage at which its request goes on
abbrev pub fit : Programs → Want → Ending → Bool
fit m w (Reply text) = true
fit m w (Call t stage text) = has_stage m (record { client = w.client; seq = w.seq }) w.body stage

-- there is one end for each segment, and each call fits
abbrev pub fits : Programs → List Want → List Ending → Bool
fits m [] [] = true
fits m [] (e ∷ es) = false
fits m (w ∷ ws) [] = false
fits m (w ∷ ws) (e ∷ es) = fit m w e && fits m ws es

-- A Commit is applied by writing its token's pairs to the store, where it fits. A Serial is applied by running the job in
-- its order, where each answer is held.
abbrev pub finish_of : Programs → Codes → List Want → Tables → Verdict → Option Finish
finish_of m held ws T (Commit token order) = and_then (m.read token) (λ o. if fits m ws o.ends then Some (finish_by T.store o) else None)
finish_of m held ws T Serial = and_then (job_of held ws) (λ J. Some (finish m J (below (length J)) T.store))
