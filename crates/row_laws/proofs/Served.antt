-- Which services keep to what is asked of them.
use Rattle.std.proofs.Common.{refl, arith}
use Rattle.aeg_base.specs.declared.names.Tier.{Tier}
use Rattle.aeg_base.specs.declared.names.Tier.TheVariants.{Mid as InMid, Inv, Pay}
use Rattle.server_model.specs.CodeBytes.{inventory_byte, payment_byte}
use Rattle.server_model.specs.Server.{Meaning}
use Rattle.server_model.specs.Single.{booking_meaning}
use Rattle.booking.specs.Again.{booking_again}
use Rattle.booking.specs.Beginning.{booking_beginning}
use Rattle.booking.specs.Folds.{booking_folds}
use Rattle.booking.specs.Proper.{booking_proper}
use Rattle.exec_model.specs.Jobs.{Beginnings}
use Rattle.round_model.specs.Spelled.{spelled}
use Rattle.run_model.specs.BookingRuns.{booking_service}
use Rattle.tier_laws.specs.Services.{IsService}
use Rattle.row_laws.specs.Services.{IsServiceIn, IsBackendIn}

pub spelled_in : {B : Type 0} (meaning : Meaning B) (begins : Beginnings) → IsService meaning begins → IsServiceIn (spelled meaning begins).programs
spelled_in meaning begins k = record { folds = k.folds; proper = k.proper; again = k.again; spells = λ o. refl; reads = λ token. refl }

pub booking_in : IsServiceIn booking_service.programs
booking_in = spelled_in booking_meaning booking_beginning (record { folds = booking_folds; proper = booking_proper; again = booking_again })

-- THE BACKENDS OF THE BOOKING SERVICE

pub booking_codes : (t : Tier) → IsBackendIn (booking_service.backend t)
booking_codes InMid state call = omega arith
booking_codes Inv state call = inventory_byte state call
booking_codes Pay state call = payment_byte state call
