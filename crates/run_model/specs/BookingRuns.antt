-- What a run of the booking service is made with.
use Rattle.std.specs.Prelude.{ℕ, length}
use Rattle.server_model.specs.Backends.{Amounts}
use Rattle.server_model.specs.Single.{booking_meaning}
use Rattle.booking.specs.Beginning.{booking_beginning}
use Rattle.log_values.specs.Records.{record_text}
use Rattle.frames.specs.Frames.{frame}
use Rattle.round_model.specs.Service.{Service}
use Rattle.round_model.specs.Spelled.{spelled}
use Rattle.run_model.specs.World.{Config, World}

-- the booking service with its backends, its programs, and the tokens of its jobs
abbrev pub booking_service : Service Amounts
booking_service = spelled booking_meaning booking_beginning

-- tiers of 2u+1 nodes and a pipeline of this depth
abbrev pub config : ℕ → ℕ → Config Amounts
config u depth = record {
  u = u;
  depth = depth;
  service = booking_service;
  frame_length = λ from message. length (frame from message);
  record_length = λ facts. length (record_text facts);
}

abbrev pub BookingWorld : Type 0
BookingWorld = World Amounts
