-- A store computes.
use Rattle.std.specs.Prelude.{◌≡◌, [], ◌∷◌, refl}
use Rattle.aeg_base.specs.Numbers.{checked, number_at, with_number}
use Rattle.aeg_base.specs.Store.{empty, value_at, written, pairs_of, written_all}

-- pairs stand by class, then id; a write of 0 takes its key out
sorted : pairs_of (written_all empty ((record { class = 3; id = 1 }, 7) ∷ (record { class = 0; id = 9 }, 5)
    ∷ (record { class = 3; id = 0 }, 4) ∷ (record { class = 0; id = 9 }, 0) ∷ []))
    ≡ (record { class = 3; id = 0 }, 4) ∷ (record { class = 3; id = 1 }, 7) ∷ []
unfolding checked with_number
sorted = refl

read : value_at (written (written empty (record { class = 1; id = 2 }) 3) (record { class = 1; id = 2 }) 8) (record { class = 1; id = 2 }) ≡ 8
unfolding checked with_number number_at
read = refl
