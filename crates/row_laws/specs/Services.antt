-- What a service keeps to, so that what its nodes send and write down has a spelling.
use Rattle.std.specs.Prelude.{◌≡◌, ℕ, ◌<◌, List}
use Rattle.aeg_base.specs.declared.names.ReqId.{ReqId}
use Rattle.svc_api.specs.Segment.{Folds, GoesOn}
use Rattle.svc_api.specs.declared.outcome.Outcome.{Outcome}
use Rattle.exec_model.specs.Jobs.{AreProper}
use Rattle.log_values.specs.Outcomes.{outcome, outcome_at}
use Rattle.log_values.specs.Reading.{whole}
use Rattle.round_model.specs.Service.{Programs, Backend}

-- The programs come to the table, within the limits of a segment. A request whose segment calls has the stage that the
-- call names. A token is the spelling of an outcome.
pub record IsServiceIn (m : Programs) : Type 0 where
  pub folds : (who : ReqId) (body : List ℕ) (stage : ℕ) → Folds (m.begins who body stage) (m.table who body stage)
  pub proper : AreProper m.begins
  pub again : (who : ReqId) (body : List ℕ) (stage : ℕ) → GoesOn (m.table who body stage) (m.table who body)
  pub spells : (o : Outcome) → m.spell o ≡ outcome o
  pub reads : (token : List ℕ) → m.read token ≡ whole (outcome_at token)

-- each code that it answers is a byte
abbrev pub IsBackendIn : {B : Type 0} → Backend B → Type 0
IsBackendIn {B} b = (state : B) (call : List ℕ) → (b.serve state call).code < 256
