-- What a text is answered with.
use Rattle.std.specs.Prelude.{ℕ}
use Rattle.std.specs.declared.result.Result.{Result}
use Rattle.std.specs.declared.result.Result.TheVariants.{Ok, Err}
use Rattle.server_model.specs.declared.request.Request.{Request}
use Rattle.booking.specs.declared.request.BadRequest.{BadRequest}

-- the request, or the rule that the text breaks
abbrev pub answered : Result Request ℕ → Result Request BadRequest
answered (Ok request) = Ok request
answered (Err row) = Err (record { row = row })
