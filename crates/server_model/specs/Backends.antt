-- The two services that nested calls go to: inventory has the taken seats of each trip, payment the spent amount of each
-- client. A call is answered by 0 where it is granted, else by the number of its denial, and a denied call changes
-- nothing.
use Rattle.std.specs.Prelude.{ℕ, ◌+◌, ◌-◌, nat_lt, List, [], ◌∷◌, codes, if◌then◌else◌, Option, Some}
use Rattle.std.specs.Ordering.{nat_cmp}
use Rattle.std.specs.Str.{bytes_eq}
use Rattle.aeg_base.specs.Numbers.{Numbers, no_numbers, number_at, with_number}
use Rattle.aeg_base.specs.declared.names.Tier.{Tier}
use Rattle.aeg_base.specs.declared.names.Tier.TheVariants.{Mid, Inv, Pay}
use Rattle.server_model.specs.Words.{words_of, number_in}
use Rattle.server_model.specs.Requests.{trip_in}

-- amounts by trip or by client, 0 where there is none
abbrev pub Amounts : Type 0
Amounts = Numbers nat_cmp

abbrev pub no_amounts : Amounts
no_amounts = no_numbers

abbrev pub amount_at : Amounts → ℕ → ℕ
amount_at amounts at = number_at amounts at

-- the state after a call, and its code
pub record Served (B : Type 0) : Type 0 where
  pub state : B
  pub code : ℕ

abbrev pub denied : Amounts → ℕ → Served Amounts
denied amounts row = record { state = amounts; code = row }

abbrev pub granted : Amounts → ℕ → ℕ → Served Amounts
granted amounts at amount = record { state = with_number amounts at amount; code = 0 }

-- an amount is added up to a limit, or taken away as far as there is any
abbrev pub adds : Amounts → ℕ → Option ℕ → Option ℕ → Served Amounts
adds amounts limit (Some at) (Some amount) =
    if nat_lt limit (amount_at amounts at + amount) then denied amounts 2 else granted amounts at (amount_at amounts at + amount)
adds amounts limit _ _ = denied amounts 1

abbrev pub takes : Amounts → Option ℕ → Option ℕ → Served Amounts
takes amounts (Some at) (Some amount) =
    if nat_lt (amount_at amounts at) amount then denied amounts 3 else granted amounts at (amount_at amounts at - amount)
takes amounts _ _ = denied amounts 1

abbrev pub inventory_words : Amounts → List (List ℕ) → Served Amounts
inventory_words seats (word ∷ trip ∷ qty ∷ []) =
    if bytes_eq word (codes "reserve") then adds seats 100 (trip_in trip) (number_in 1 100 qty)
    else if bytes_eq word (codes "release") then takes seats (trip_in trip) (number_in 1 100 qty)
    else denied seats 1
inventory_words seats _ = denied seats 1

-- 100 seats of a trip can be taken
abbrev pub inventory_serve : Amounts → List ℕ → Served Amounts
inventory_serve seats call = inventory_words seats (words_of call)

abbrev pub payment_words : Amounts → List (List ℕ) → Served Amounts
payment_words spent (word ∷ client ∷ amount ∷ []) =
    if bytes_eq word (codes "charge") then adds spent 10000 (number_in 1 16 client) (number_in 1 100000000 amount)
    else if bytes_eq word (codes "refund") then takes spent (number_in 1 16 client) (number_in 1 100000000 amount)
    else denied spent 1
payment_words spent _ = denied spent 1

-- a client can spend 10,000
abbrev pub payment_serve : Amounts → List ℕ → Served Amounts
payment_serve spent call = payment_words spent (words_of call)

abbrev pub serve_at : Tier → Amounts → List ℕ → Served Amounts
serve_at Mid amounts call = denied amounts 1
serve_at Inv amounts call = inventory_serve amounts call
serve_at Pay amounts call = payment_serve amounts call
