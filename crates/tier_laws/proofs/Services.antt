-- A service whose segments are programs, with tokens that have the spelling of outcomes, meets what the laws ask.
pub mod Serial
pub mod Stores
pub mod Tokens
use Rattle.server_model.specs.Server.{Meaning}
use Rattle.server_model.specs.Single.{booking_meaning}
use Rattle.booking.specs.Again.{booking_again}
use Rattle.booking.specs.Beginning.{booking_beginning}
use Rattle.booking.specs.Folds.{booking_folds}
use Rattle.booking.specs.Proper.{booking_proper}
use Rattle.exec_model.specs.Jobs.{Beginnings}
use Rattle.exec_model.specs.Outcomes as outcomes
use Rattle.round_model.specs.Service.{finish}
use Rattle.round_model.specs.Spelled.{spelled}
use Rattle.tier_laws.specs.Said.{Laws}
use Rattle.tier_laws.specs.Services.{IsService}
use Rattle.run_model.specs.BookingRuns.{booking_service}
use Rattle.tier_laws.proofs.Services.Serial.{run-order, run-store, run-ends}
use Rattle.tier_laws.proofs.Services.Tokens.{store_is_in, outcome_fits, token_read}

pub service_laws : {B : Type 0} (meaning : Meaning B) (begins : Beginnings) → IsService meaning begins → Laws (spelled meaning begins).programs
service_laws meaning begins k = record {
  orders = run-order begins;
  store = run-store (spelled meaning begins).programs k.folds;
  ends = run-ends (spelled meaning begins).programs k.folds;
  stores = λ J order s job o st. store_is_in (spelled meaning begins).programs k.folds k.proper J order s job st;
  reads = λ J order s job o st.
      let f = finish (spelled meaning begins).programs J order s in
      token_read (outcomes.outcome s f.store f.ends) (outcome_fits (spelled meaning begins).programs k.folds k.proper J order s job o st);
  again = k.again;
}

booking_is_service : IsService booking_meaning booking_beginning
booking_is_service = record { folds = booking_folds; proper = booking_proper; again = booking_again }

pub booking_laws : Laws booking_service.programs
booking_laws = service_laws booking_meaning booking_beginning booking_is_service
