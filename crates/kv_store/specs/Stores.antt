-- What contracts see of a store with room, and of an undo list.
use Rattle.std.specs.Prelude.{ℕ, ◌<◌, ◌≤◌, List, [], ◌∷◌, length, refl}
use Rattle.std.specs.Coded.{Coded, code_by, coded×, coded_list, coded_ℕ}
use Rattle.aeg_base.specs.declared.names.Key.{Key}
use Rattle.aeg_base.specs.Codes.{key_code}
use Rattle.aeg_base.specs.Store.{Store, store_code, pairs_of, written}

-- a map, and how many pairs it can hold without growing
pub record Holding : Type 0 where
  pub map : Store
  pub room : ℕ

abbrev pub holding_code : Coded Holding
holding_code = code_by (Store × ℕ) (coded× store_code coded_ℕ) (λ h. (h.map, h.room)) (λ p. record { map = p.0; room = p.1 }) (λ _. refl)

-- keys with the values that they had before a put, the oldest first, how many fit without growing, and the most pairs
-- that the store had since the list's start
pub record Logged : Type 0 where
  pub entries : List (Key × ℕ)
  pub room : ℕ
  pub top : ℕ

abbrev pub logged_code : Coded Logged
logged_code = code_by (List (Key × ℕ)
    × (ℕ × ℕ)) (coded× (coded_list (coded× key_code coded_ℕ)) (coded× coded_ℕ coded_ℕ))
    (λ l. (l.entries, (l.room, l.top))) (λ p. record { entries = p.0; room = (p.1).0; top = (p.1).1 }) (λ _. refl)

-- how many pairs the store has
abbrev pub size : Store → ℕ
size s = length (pairs_of s)

-- the store before these puts: each key gets back the value that it had, the newest put first
abbrev pub unwound : List (Key × ℕ) → Store → Store
unwound [] s = s
unwound (entry ∷ newer) s = written (unwound newer s) entry.0 entry.1

-- before no put of the list the store had more pairs than this
abbrev pub StaysWithin : ℕ → List (Key × ℕ) → Store → Type 0
StaysWithin top [] s = Unit {0}
StaysWithin top (entry ∷ newer) s = StaysWithin top newer s × (size (unwound (entry ∷ newer) s) ≤ top)

-- each key is one of a store
abbrev pub AreKeys : List (Key × ℕ) → Type 0
AreKeys [] = Unit {0}
AreKeys (entry ∷ newer) = (entry.0.class < 8) × AreKeys newer

-- the keys of the puts, each with 1
abbrev pub touched : List (Key × ℕ) → Store → Store
touched [] s = s
touched (entry ∷ newer) s = written (touched newer s) entry.0 1
