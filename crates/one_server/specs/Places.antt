-- Where the items of a tier stand in a list, by their numbers.
use Rattle.std.specs.Prelude.{◌≡◌, ℕ, ◌+◌, ◌==◌, ◌&&◌, List, [], ◌∷◌, Option, None, Some, if◌then◌else◌, slice_index_or}
use Rattle.std.specs.Ordering.{nat_cmp}
use Rattle.std.specs.BTreeMap.{get}
use Rattle.aeg_base.specs.declared.names.Tier.{Tier}
use Rattle.aeg_base.specs.declared.names.Tier.TheVariants.{Mid, Inv, Pay}
use Rattle.server_model.specs.Server.{same_tier}
use Rattle.one_server.specs.declared.numbering.Numbering.{Numbering}
use Rattle.one_server.specs.declared.places.Places.{Places}

-- what a slot has, none where there is no such slot
abbrev pub slot_at : List (Option ℕ) → ℕ → Option ℕ
slot_at slots number = slice_index_or slots number None

-- what the slot has, or else what the map has
abbrev pub slot_or : Option ℕ → Option ℕ → Option ℕ
slot_or (Some place) far = Some place
slot_or None far = far

-- the place of a number
abbrev pub place_at : Numbering → ℕ → Option ℕ
place_at numbering number = slot_or (slot_at numbering.slots.items number) (get nat_cmp numbering.far number)

abbrev pub place_in : Places → Tier → ℕ → Option ℕ
place_in places Mid number = place_at places.middle number
place_in places Inv number = place_at places.inventory number
place_in places Pay number = place_at places.payment number

-- the number has this place, and the others those that they had
abbrev pub Sets : Places → Places → Tier → ℕ → ℕ → Type 0
Sets old new tier number place = (t : Tier) (n : ℕ) → place_in new t n ≡ (if same_tier tier t && (number == n) then Some place else place_in old t n)

-- the number has no place, and the others those that they had
abbrev pub Loses : Places → Places → Tier → ℕ → Type 0
Loses old new tier number = (t : Tier) (n : ℕ) → place_in new t n ≡ (if same_tier tier t && (number == n) then None else place_in old t n)

abbrev pub IsSame : Places → Places → Type 0
IsSame old new = (t : Tier) (n : ℕ) → place_in new t n ≡ place_in old t n

-- the place of the tier's first item with this number, counted from here on
abbrev pub place_from : {T : Type 0} → ℕ → List (Tier × ℕ × T) → Tier → ℕ → Option ℕ
place_from at [] tier number = None
place_from at (item ∷ items) tier number =
    if same_tier item.0 tier && (item.1 == number) then Some at else place_from (at + 1) items tier number

-- the places are those of the items
abbrev pub AreIndexed : {T : Type 0} → List (Tier × ℕ × T) → Places → Type 0
AreIndexed items places = (tier : Tier) (number : ℕ) → place_in places tier number ≡ place_from 0 items tier number
