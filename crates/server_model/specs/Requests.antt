-- Requests as texts, and the first rule that a text breaks: 1, the first word is no request's; 2, the number of further
-- words; 3, a further word is no number in its range.
use Rattle.std.specs.Prelude.{ℕ, List, [], ◌∷◌, Option, None, Some, codes, if◌then◌else◌}
use Rattle.std.specs.Option.{option_and_then, option_map}
use Rattle.std.specs.Str.{bytes_eq}
use Rattle.std.specs.declared.result.Result.{Result}
use Rattle.std.specs.declared.result.Result.TheVariants.{Ok, Err}
use Rattle.server_model.specs.Words.{words_of, number_in}
use Rattle.server_model.specs.declared.request.Request.{Request}
use Rattle.server_model.specs.declared.request.Request.TheVariants.{Open, Book, Cancel, Look}

abbrev pub trip_in : List ℕ → Option ℕ
trip_in word = number_in 1 9999 word

abbrev pub booking_in : List ℕ → Option ℕ
booking_in word = number_in 1 1048576 word

-- the request, where each word was a number in its range
abbrev pub in_range : Option Request → Result Request ℕ
in_range None = Err 3
in_range (Some request) = Ok request

abbrev pub open_of : List (List ℕ) → Result Request ℕ
open_of (trip ∷ cap ∷ price ∷ link ∷ []) =
    in_range (option_and_then (λ t. option_and_then (λ c. option_and_then (λ p. option_map (λ l. Open t c p l)
    (number_in 0 9999 link)) (number_in 1 1000000 price)) (number_in 1 1000 cap)) (trip_in trip))
open_of _ = Err 2

abbrev pub book_of : List (List ℕ) → Result Request ℕ
book_of (trip ∷ qty ∷ []) = in_range (option_and_then (λ t. option_map (λ q. Book t q) (number_in 1 100 qty)) (trip_in trip))
book_of _ = Err 2

abbrev pub cancel_of : List (List ℕ) → Result Request ℕ
cancel_of (booking ∷ []) = in_range (option_map (λ b. Cancel b) (booking_in booking))
cancel_of _ = Err 2

abbrev pub look_of : List (List ℕ) → Result Request ℕ
look_of (booking ∷ []) = in_range (option_map (λ b. Look b) (booking_in booking))
look_of _ = Err 2

-- the request with this first word and these further words
abbrev pub request_with : List ℕ → List (List ℕ) → Result Request ℕ
request_with first further =
    if bytes_eq first (codes "open") then open_of further
    else if bytes_eq first (codes "book") then book_of further
    else if bytes_eq first (codes "cancel") then cancel_of further
    else if bytes_eq first (codes "look") then look_of further
    else Err 1

abbrev pub request_in : List (List ℕ) → Result Request ℕ
request_in [] = Err 1
request_in (first ∷ further) = request_with first further

-- a text is split at each space
abbrev pub request_of : List ℕ → Result Request ℕ
request_of text = request_in (words_of text)
