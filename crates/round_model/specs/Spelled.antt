-- A service whose tokens have the spelling of outcomes.
use Rattle.server_model.specs.Server.{Meaning}
use Rattle.exec_model.specs.Jobs.{Beginnings}
use Rattle.log_values.specs.Outcomes.{outcome, outcome_at}
use Rattle.log_values.specs.Reading.{whole}
use Rattle.round_model.specs.Service.{Service}

-- a token is read where all of its bytes are an outcome
abbrev pub spelled : {B : Type 0} → Meaning B → Beginnings → Service B
spelled meaning begins = record {
  programs = record { table = meaning.table; begins = begins; spell = outcome; read = λ bytes. whole (outcome_at bytes) };
  backend = λ t. record { opening = meaning.opening t; serve = meaning.serve t };
}
