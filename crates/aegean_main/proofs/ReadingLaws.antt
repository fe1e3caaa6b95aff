-- A start by what its text was read as.
use Rattle.std.proofs.Common.{◌≡◌, ℕ, List, Result, Ok, Err, refl}
use Rattle.aeg_base.specs.declared.names.ReqId.{ReqId}
use Rattle.booking.specs.Reading.{answered}
use Rattle.booking.specs.declared.request.BadRequest.{BadRequest}
use Rattle.server_model.specs.Single.{Steps, Bad, started_with}
use Rattle.server_model.specs.declared.history.Hist.TheVariants.{Start}
use Rattle.server_model.specs.declared.request.Request.{Request}

pub started-request : (who : ReqId) (number : ℕ) (body : List ℕ) (read : Result Request ℕ) (request : Request) → Ok request ≡ answered read
    → started_with who number body read ≡ Steps (Start who number) body
started-request who number body (Ok request) x e = refl
started-request who number body (Err row) x e = absurd (cc)

pub started-none : (who : ReqId) (number : ℕ) (body : List ℕ) (read : Result Request ℕ) (bad : BadRequest) → Err bad ≡ answered read
    → started_with who number body read ≡ Bad 5
started-none who number body (Ok request) bad e = absurd (cc)
started-none who number body (Err row) bad e = refl
