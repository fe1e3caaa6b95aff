-- The keys that were touched, and those of them that changed.
use Rattle.std.specs.Prelude.{ℕ, ◌==◌, List, [], ◌∷◌, if◌then◌else◌}
use Rattle.aeg_base.specs.Store.{Store, value_at}
use Rattle.aeg_base.specs.declared.names.Key.{Key}

-- of these keys those whose values differ, with their values in t
abbrev pub picked : Store → Store → List (Key × ℕ) → List (Key × ℕ)
picked s t [] = []
picked s t (e ∷ es) = if value_at t e.0 == value_at s e.0 then picked s t es else (e.0, value_at t e.0) ∷ picked s t es
