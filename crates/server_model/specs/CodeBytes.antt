-- Each code of a backend is a byte.
use Rattle.std.proofs.Common.{ℕ, ◌+◌, ◌<◌, Bool, true, false, cond, List, [], ◌∷◌, arith, Option, Some, None}
use Rattle.std.proofs.lemmas.Bool.{cond_both}
use Rattle.std.specs.Prelude.{codes, nat_lt}
use Rattle.std.specs.Str.{bytes_eq}
use Rattle.server_model.specs.Backends.{Amounts, Served, amount_at, adds, takes, inventory_words, payment_words, inventory_serve, payment_serve}
use Rattle.server_model.specs.Words.{words_of, number_in}
use Rattle.server_model.specs.Requests.{trip_in}

adds_small : (amounts : Amounts) (limit : ℕ) (a b : Option ℕ) → (adds amounts limit a b).code < 256
adds_small amounts limit None None = omega arith
adds_small amounts limit None (Some b) = omega arith
adds_small amounts limit (Some a) None = omega arith
adds_small amounts limit (Some a) (Some b) =
    cond_both (nat_lt limit (amount_at amounts a + b)) _ _ (λ (z : Served Amounts). z.code < 256) (λ e. omega arith) (λ e. omega arith)

takes_small : (amounts : Amounts) (a b : Option ℕ) → (takes amounts a b).code < 256
takes_small amounts None None = omega arith
takes_small amounts None (Some b) = omega arith
takes_small amounts (Some a) None = omega arith
takes_small amounts (Some a) (Some b) =
    cond_both (nat_lt (amount_at amounts a) b) _ _ (λ (z : Served Amounts). z.code < 256) (λ e. omega arith) (λ e. omega arith)

either_small : (b : Bool) (p q : Served Amounts) → p.code < 256 → q.code < 256 → (cond b p q).code < 256
either_small true p q k l = k
either_small false p q k l = l

inventory_code : (seats : Amounts) (words : List (List ℕ)) → (inventory_words seats words).code < 256
inventory_code seats [] = omega arith
inventory_code seats (a ∷ []) = omega arith
inventory_code seats (a ∷ b ∷ []) = omega arith
inventory_code seats (word ∷ trip ∷ qty ∷ []) = either_small (bytes_eq word (codes "reserve")) _ _ (adds_small seats 100 (trip_in trip) (number_in 1 100 qty))
    (either_small (bytes_eq word (codes "release")) _ _ (takes_small seats (trip_in trip) (number_in 1 100 qty)) (omega arith))
inventory_code seats (a ∷ b ∷ c ∷ d ∷ more) = omega arith

payment_code : (spent : Amounts) (words : List (List ℕ)) → (payment_words spent words).code < 256
payment_code spent [] = omega arith
payment_code spent (a ∷ []) = omega arith
payment_code spent (a ∷ b ∷ []) = omega arith
payment_code spent (word ∷ client ∷ amount ∷ []) =
    either_small (bytes_eq word (codes "charge")) _ _ (adds_small spent 10000 (number_in 1 16 client) (number_in 1 100000000 amount))
    (either_small (bytes_eq word (codes "refund")) _ _ (takes_small spent (number_in 1 16 client) (number_in 1 100000000 amount)) (omega arith))
payment_code spent (a ∷ b ∷ c ∷ d ∷ more) = omega arith

pub inventory_byte : (seats : Amounts) (call : List ℕ) → (inventory_serve seats call).code < 256
inventory_byte seats call = inventory_code seats (words_of call)

pub payment_byte : (spent : Amounts) (call : List ℕ) → (payment_serve spent call).code < 256
payment_byte spent call = payment_code spent (words_of call)
