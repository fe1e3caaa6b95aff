-- Client ends, each with the client's number.
use Rattle.std.specs.Prelude.{◌≡◌, ℕ, suc, ◌==◌, ◌&&◌, Bool, true, List, Option, None, Some}
use Rattle.std.specs.Option.{option_map}
use Rattle.round_model.specs.Lists.{is_some}
use Rattle.run_model.specs.World.{ClientEnd}

-- a client's number and its end
pub record ClientState : Type 0 where
  pub number : ℕ
  pub end : ClientEnd

-- nothing was asked yet
abbrev pub fresh : ℕ → ClientState
fresh client = record { number = client; end = record { last = 0; opened = None } }

-- the next request is open, with this text
abbrev pub opened_with : ClientState → List ℕ → ClientState
opened_with c text = record { number = c.number; end = record { last = suc c.end.last; opened = Some text } }

-- no request is open
abbrev pub closed : ClientState → ClientState
closed c = record { number = c.number; end = record { last = c.end.last; opened = None } }

-- none was open, and the answer is the number of the one that is open now; or one was open, and it still is
abbrev pub Submits : ClientState → ClientState → List ℕ → Option ℕ → Type 0
Submits old new text (Some seq) = (old.end.opened ≡ None) × ((seq ≡ suc old.end.last) × (new ≡ opened_with old text))
Submits old new text None = (is_some old.end.opened ≡ true) × (new ≡ old)

-- the open request with its number
abbrev pub asked : ClientState → Option (ℕ × List ℕ)
asked c = option_map (λ text. (c.end.last, text)) c.end.opened

-- a reply with this number is the open request's
abbrev pub takes : ClientState → ℕ → Bool
takes c seq = is_some c.end.opened && (seq == c.end.last)
