-- No number of a request is past its range.
use Rattle.std.proofs.Common.{◌≡◌, ℕ, ◌≤◌, ◌&&◌, Bool, true, false, List, [], ◌∷◌, Option, None, Some, if◌then◌else◌, refl}
use Rattle.std.specs.Prelude.{nat_le, codes}
use Rattle.std.specs.Option.{option_and_then, option_map}
use Rattle.std.specs.Str.{bytes_eq}
use Rattle.std.specs.declared.result.Result.{Result}
use Rattle.std.specs.declared.result.Result.TheVariants.{Ok, Err}
use Rattle.std.proofs.lemmas.Bool.{leb-true}
use Rattle.server_model.specs.Words.{words_of, number_in, is_numeral, value_of}
use Rattle.server_model.specs.Requests.{request_of, request_in, in_range, open_of, book_of, cancel_of, look_of}
use Rattle.server_model.specs.declared.request.Request.{Request}
use Rattle.server_model.specs.declared.request.Request.TheVariants.{Open, Book, Cancel, Look}

pub record IsOpen (trip cap price link : ℕ) : Type 0 where
  pub trip_high : trip ≤ 9999
  pub cap_high : cap ≤ 1000
  pub price_high : price ≤ 1000000
  pub link_high : link ≤ 9999

pub record IsBook (trip qty : ℕ) : Type 0 where
  pub trip_high : trip ≤ 9999
  pub qty_high : qty ≤ 100

abbrev pub IsInRange : Request → Type 0
IsInRange (Open trip cap price link) = IsOpen trip cap price link
IsInRange (Book trip qty) = IsBook trip qty
IsInRange (Cancel booking) = booking ≤ 1048576
IsInRange (Look booking) = booking ≤ 1048576

abbrev pub Has : {A : Type 0} → (A → Type 0) → Option A → Type 0
Has P None = Unit {0}
Has P (Some x) = P x

abbrev pub HasRequest : Result Request ℕ → Type 0
HasRequest (Err row) = Unit {0}
HasRequest (Ok request) = IsInRange request

has_map : {A B : Type 0} (P : A → Type 0) (Q : B → Type 0) (f : A → B) (o : Option A) → Has P o → ((x : A) → P x → Q (f x)) → Has Q (option_map f o)
has_map P Q f None h g = tt
has_map P Q f (Some x) h g = g x h

has_then : {A B : Type 0} (P : A → Type 0) (Q : B → Type 0) (f : A → Option B) (o : Option A) → Has P o
    → ((x : A) → P x → Has Q (f x)) → Has Q (option_and_then f o)
has_then P Q f None h g = tt
has_then P Q f (Some x) h g = g x h

chosen : (a b c : Bool) (v high : ℕ) → (c ≡ true → v ≤ high) → Has (λ n. n ≤ high) (if a && (b && c) then Some v else None)
chosen true true true v high h = h refl
chosen true true false v high h = tt
chosen true false c v high h = tt
chosen false b c v high h = tt

number_high : (low high : ℕ) (word : List ℕ) → Has (λ n. n ≤ high) (number_in low high word)
number_high low high word = chosen (is_numeral word) (nat_le low (value_of word)) (nat_le (value_of word) high)
    (value_of word) high (leb-true (value_of word) high)

ranged : (o : Option Request) → Has IsInRange o → HasRequest (in_range o)
ranged None h = tt
ranged (Some request) h = h

open_has : (further : List (List ℕ)) → HasRequest (open_of further)
open_has [] = tt
open_has (a ∷ []) = tt
open_has (a ∷ b ∷ []) = tt
open_has (a ∷ b ∷ c ∷ []) = tt
open_has (a ∷ b ∷ c ∷ d ∷ e ∷ more) = tt
open_has (trip ∷ cap ∷ price ∷ link ∷ []) = ranged _
    (has_then (λ n. n ≤ 9999) IsInRange _ (number_in 1 9999 trip) (number_high 1 9999 trip) (λ t ht.
    has_then (λ n. n ≤ 1000) IsInRange _ (number_in 1 1000 cap) (number_high 1 1000 cap) (λ c hc.
    has_then (λ n. n ≤ 1000000) IsInRange _ (number_in 1 1000000 price) (number_high 1 1000000 price) (λ p hp.
    has_map (λ n. n ≤ 9999) IsInRange (λ l. Open t c p l) (number_in 0 9999 link) (number_high 0 9999 link) (λ l hl.
    record { trip_high = ht; cap_high = hc; price_high = hp; link_high = hl })))))

book_has : (further : List (List ℕ)) → HasRequest (book_of further)
book_has [] = tt
book_has (a ∷ []) = tt
book_has (a ∷ b ∷ c ∷ more) = tt
book_has (trip ∷ qty ∷ []) = ranged _
    (has_then (λ n. n ≤ 9999) IsInRange _ (number_in 1 9999 trip) (number_high 1 9999 trip) (λ t ht.
    has_map (λ n. n ≤ 100) IsInRange (λ q. Book t q) (number_in 1 100 qty) (number_high 1 100 qty) (λ q hq.
    record { trip_high = ht; qty_high = hq })))

cancel_has : (further : List (List ℕ)) → HasRequest (cancel_of further)
cancel_has [] = tt
cancel_has (a ∷ b ∷ more) = tt
cancel_has (booking ∷ []) = ranged _
    (has_map (λ n. n ≤ 1048576) IsInRange (λ b. Cancel b) (number_in 1 1048576 booking) (number_high 1 1048576 booking)
    (λ b hb. hb))

look_has : (further : List (List ℕ)) → HasRequest (look_of further)
look_has [] = tt
look_has (a ∷ b ∷ more) = tt
look_has (booking ∷ []) = ranged _
    (has_map (λ n. n ≤ 1048576) IsInRange (λ b. Look b) (number_in 1 1048576 booking) (number_high 1 1048576 booking) (λ b hb. hb))

has_if : (b : Bool) (x y : Result Request ℕ) → HasRequest x → HasRequest y → HasRequest (if b then x else y)
has_if true x y h k = h
has_if false x y h k = k

with_has : (words : List (List ℕ)) → HasRequest (request_in words)
with_has [] = tt
with_has (first ∷ further) =
    has_if (bytes_eq first (codes "open")) (open_of further) _ (open_has further)
    (has_if (bytes_eq first (codes "book")) (book_of further) _ (book_has further)
    (has_if (bytes_eq first (codes "cancel")) (cancel_of further) _ (cancel_has further)
    (has_if (bytes_eq first (codes "look")) (look_of further) (Err 1) (look_has further) tt)))

pub request_in_range : (body : List ℕ) → HasRequest (request_of body)
request_in_range body = with_has (words_of body)
