-- The pending entries of the clients while nothing is run: no request was done, so each is its client's first.
use Rattle.std.specs.Prelude.{◌≡◌, ℕ, List, [], ◌∷◌, length, true, Option, Some, None}
use Rattle.log_values.specs.declared.entry.Entry.{Entry}
use Rattle.log_values.specs.Fields.{IsClient}
use Rattle.round_model.specs.Service.{is_request}
use Rattle.round_model.specs.Tables.{who_of, pending_of}
use Rattle.run_model.specs.BookingRuns.{booking_service}

-- the first request of its client
pub record IsFirst (e : Entry) : Type 0 where
  pub client : IsClient e.client
  pub seq : e.seq ≡ 1
  pub request : is_request booking_service.programs (who_of e) e.body ≡ true

-- a place for each client by its number, and each entry stands at its client's
pub record ArePending (pending : List (Option Entry)) : Type 0 where
  pub places : length pending ≡ 17
  pub first : (c : ℕ) (e : Entry) → pending_of pending c ≡ Some e → IsFirst e
  pub own : (c : ℕ) (e : Entry) → pending_of pending c ≡ Some e → e.client ≡ c

-- the entry, where there is one
abbrev pub listed : Option Entry → List Entry
listed None = []
listed (Some e) = e ∷ []
