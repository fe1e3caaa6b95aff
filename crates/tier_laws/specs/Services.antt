-- Services whose segments are programs, and the booking service among them.
use Rattle.std.specs.Prelude.{ℕ, List}
use Rattle.aeg_base.specs.declared.names.End.{End}
use Rattle.aeg_base.specs.declared.names.ReqId.{ReqId}
use Rattle.svc_api.specs.Requests.{IsRequest}
use Rattle.svc_api.specs.Segment.{Folds, IsProper, GoesOn}
use Rattle.server_model.specs.Server.{Meaning}
use Rattle.server_model.specs.Backends.{Amounts}
use Rattle.exec_model.specs.Jobs.{Beginnings}
use Rattle.log_values.specs.declared.fact.Fact.{Fact}
use Rattle.frames.specs.declared.message.Msg.{Msg}
use Rattle.run_model.specs.World.{Config}
use Rattle.run_model.specs.BookingRuns.{booking_service}

-- The programs come to the table, within the limits of a segment. A request whose segment calls has the stage that the
-- call names.
pub record IsService {B : Type 0} (meaning : Meaning B) (begins : Beginnings) : Type 0 where
  pub folds : (who : ReqId) (body : List ℕ) (stage : ℕ) → Folds (begins who body stage) (meaning.table who body stage)
  pub proper : (who : ReqId) (body : List ℕ) (stage : ℕ) → IsRequest who → IsProper (begins who body stage)
  pub again : (who : ReqId) (body : List ℕ) (stage : ℕ) → GoesOn (meaning.table who body stage) (meaning.table who body)

-- a run's size, its depth, and the lengths of its frames and records
pub record Setup : Type 0 where
  pub u : ℕ
  pub depth : ℕ
  pub frame_length : End → Msg → ℕ
  pub record_length : List Fact → ℕ

-- such a run of the booking service
abbrev pub booking_run : Setup → Config Amounts
booking_run a = record { u = a.u; depth = a.depth; service = booking_service; frame_length = a.frame_length; record_length = a.record_length }
