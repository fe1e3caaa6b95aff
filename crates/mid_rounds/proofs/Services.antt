-- The programs of a service are in range.
use Rattle.std.proofs.Common.{ℕ, List, refl}
use Rattle.aeg_base.specs.declared.names.ReqId.{ReqId}
use Rattle.svc_api.specs.Segment.{Folds, GoesOn}
use Rattle.exec_model.specs.Jobs.{AreProper, Beginnings}
use Rattle.round_model.specs.Service.{Programs, Service, Table}
use Rattle.applied_rounds.specs.States.{programs_of}
use Rattle.row_laws.specs.Services.{IsServiceIn}

-- what the laws of a service say of its programs
pub programs_in : (table : Table) (begins : Beginnings) → ((who : ReqId) (body : List ℕ) (stage : ℕ) → Folds (begins who body stage) (table who body stage))
    → AreProper begins → ((who : ReqId) (body : List ℕ) (stage : ℕ) → GoesOn (table who body stage) (table who body))
    → IsServiceIn (programs_of table begins)
programs_in table begins folds proper again = record { folds = folds; proper = proper; again = again; spells = λ o. refl; reads = λ token. refl }

-- a service with these programs, and backends that keep nothing
abbrev pub service_by : Programs → Service (Unit {0})
service_by p = record { programs = p; backend = λ t. record { opening = tt; serve = λ state call. record { state = tt; code = 0 } } }
