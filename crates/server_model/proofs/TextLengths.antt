-- A request's text is short: its words are a name and numbers of at most seven digits.
use Rattle.std.proofs.Common.{◌≡◌, ℕ, ◌+◌, ◌-◌, ◌*◌, ◌<◌, ◌≤◌, Bool, true, false, cond, List, [], ◌∷◌, refl, ap, length}
use Rattle.std.proofs.Common.{fold, arith, suc, Option, Some, None, Ok, Err}
use Rattle.std.specs.Prelude.{◌==◌, ◌&&◌, nat_le, codes, option_and_then}
use Rattle.std.specs.Option.{option_map}
use Rattle.std.specs.Char.{is_ascii_digit}
use Rattle.std.specs.List.{onto_first, list_all}
use Rattle.std.specs.Str.{bytes_eq}
use Rattle.std.proofs.lemmas.Bool.{cond_both, and_parts, leb-true, eqb-true, eqb-false}
use Rattle.std.proofs.lemmas.Option.{cond_some}
use Rattle.std.proofs.lemmas.Slice.Eq.{bytes_eq-Decides}
use Rattle.server_model.specs.Words.{parts_of, words_of, value_of, is_numeral, number_in}
use Rattle.server_model.specs.Requests.{trip_in, booking_in, in_range, open_of, book_of, cancel_of, look_of, request_with, request_in, request_of}
use Rattle.server_model.specs.declared.request.Request.{Request}
use Rattle.server_model.specs.declared.request.Request.TheVariants.{Open, Book, Cancel, Look}
use Rattle.server_model.proofs.WordLaws.{first_of, read_on-le}

-- a text is as long as its words and the separators between them

abbrev lengths : List (List ℕ) → ℕ
lengths [] = 0
lengths (w ∷ ws) = suc (length w + lengths ws)

lengths_onto : (x : ℕ) (y : List ℕ) (ys : List (List ℕ)) → lengths (onto_first x (y ∷ ys)) ≡ suc (lengths (y ∷ ys))
lengths_onto x y ys = omega arith

onto_length : (x p : ℕ) (xs : List ℕ) (y : List ℕ) (ys : List (List ℕ)) → parts_of p xs ≡ y ∷ ys
    → lengths (parts_of p xs) ≡ suc (length xs) → lengths (onto_first x (parts_of p xs)) ≡ suc (suc (length xs))
onto_length x p xs y ys e f = rw e (let g : lengths (y ∷ ys) ≡ suc (length xs) = rw e at f in omega (arith, lengths_onto x y ys, g))

parts_length : (p : ℕ) (xs : List ℕ) → lengths (parts_of p xs) ≡ suc (length xs)
parts_length p [] = refl
parts_length p (x ∷ xs) = cond_both (x == p) ([] ∷ parts_of p xs) (onto_first x (parts_of p xs)) (λ z. lengths z ≡ suc (suc (length xs)))
    (λ e. omega (arith, parts_length p xs))
    (λ e. let f = first_of p xs in onto_length x p xs f.0 f.1.0 f.1.1 (parts_length p xs))

-- digits behind a number of at least 1

abbrev reads : ℕ → ℕ → ℕ
reads n c = 10 * n + (c - 48)

few_digits : (n : ℕ) (ds : List ℕ) → 1 ≤ n → fold (λ n c. 10 * n + (c - 48)) n ds < 10000000 → length ds ≤ 6
few_digits n [] l h = omega arith
few_digits n (a ∷ []) l h = omega arith
few_digits n (a ∷ b ∷ []) l h = omega arith
few_digits n (a ∷ b ∷ c ∷ []) l h = omega arith
few_digits n (a ∷ b ∷ c ∷ d ∷ []) l h = omega arith
few_digits n (a ∷ b ∷ c ∷ d ∷ e ∷ []) l h = omega arith
few_digits n (a ∷ b ∷ c ∷ d ∷ e ∷ f ∷ []) l h = omega arith
few_digits n (a ∷ b ∷ c ∷ d ∷ e ∷ f ∷ g ∷ ds) l h =
    let k : 10000000 ≤ reads (reads (reads (reads (reads (reads (reads n a) b) c) d) e) f) g = omega arith in
    absurd (omega (arith, read_on-le (reads (reads (reads (reads (reads (reads (reads n a) b) c) d) e) f) g) ds))

digit_low : (d : ℕ) → is_ascii_digit d ≡ true → 48 ≤ d
digit_low d e = leb-true 48 d (and_parts (nat_le 48 d) (nat_le d 57) e).0

numeral_short : (word : List ℕ) → is_numeral word ≡ true → value_of word < 10000000 → length word ≤ 7
numeral_short [] e h = omega arith
numeral_short (d ∷ ds) e h = go (length (d ∷ ds) == 0) (d == 48) refl e
  where
    go : (z t : Bool) → (d == 48) ≡ t
        → cond z false (cond t (length (d ∷ ds) == 1) (is_ascii_digit d && list_all is_ascii_digit ds)) ≡ true → suc (length ds) ≤ 7
    go true t f k = absurd (cc)
    go false true f k = omega (arith, eqb-true (length (d ∷ ds)) 1 k)
    go false false f k =
        let low : 48 ≤ d = digit_low d (and_parts (is_ascii_digit d) (list_all is_ascii_digit ds) k).0 in
        let other : d ≡ 48 → ⊥ = eqb-false d 48 f in
        omega (arith, few_digits (10 * 0 + (d - 48)) ds (omega arith) h)

number_short : (low high : ℕ) (word : List ℕ) (n : ℕ) → high < 10000000 → number_in low high word ≡ Some n → length word ≤ 7
number_short low high word n small e =
    let c = cond_some (is_numeral word && (nat_le low (value_of word) && nat_le (value_of word) high)) (value_of word) n e in
    let a = and_parts (is_numeral word) (nat_le low (value_of word) && nat_le (value_of word) high) c.0 in
    let b = and_parts (nat_le low (value_of word)) (nat_le (value_of word) high) a.1 in
    numeral_short word a.0 (omega (arith, leb-true (value_of word) high b.1))

-- THE REQUESTS

ok_some : (o : Option Request) (r : Request) → in_range o ≡ Ok r → o ≡ Some r
ok_some None r e = absurd (cc)
ok_some (Some q) r e = let s : q ≡ r = cc in ap (λ (z : Request). Some z) s

map_some : {A : Type 0} (f : A → Request) (o : Option A) (r : Request) → option_map f o ≡ Some r → (a : A) × (o ≡ Some a)
map_some f None r e = absurd (cc)
map_some f (Some a) r e = (a, refl)

then_some : {A : Type 0} (f : A → Option Request) (o : Option A) (r : Request) → option_and_then f o ≡ Some r → (a : A) × (o ≡ Some a) × (f a ≡ Some r)
then_some f None r e = absurd (cc)
then_some f (Some a) r e = (a, refl, e)

open_short : (further : List (List ℕ)) (r : Request) → open_of further ≡ Ok r → lengths further ≤ 32
open_short [] r e = absurd (cc)
open_short (a ∷ []) r e = absurd (cc)
open_short (a ∷ b ∷ []) r e = absurd (cc)
open_short (a ∷ b ∷ c ∷ []) r e = absurd (cc)
open_short (trip ∷ cap ∷ price ∷ link ∷ []) r e =
    let t = then_some (λ t. option_and_then
    (λ c. option_and_then (λ p. option_map (λ l. Open t c p l) (number_in 0 9999 link)) (number_in 1 1000000 price))
    (number_in 1 1000 cap)) (trip_in trip) r (ok_some _ r e) in
    let c = then_some (λ c. option_and_then (λ p. option_map (λ l. Open t.0 c p l) (number_in 0 9999 link))
    (number_in 1 1000000 price)) (number_in 1 1000 cap) r t.2 in
    let p = then_some (λ p. option_map (λ l. Open t.0 c.0 p l) (number_in 0 9999 link)) (number_in 1 1000000 price) r c.2 in
    let l = map_some (λ l. Open t.0 c.0 p.0 l) (number_in 0 9999 link) r p.2 in
    omega (
      arith,
      number_short 1 9999 trip t.0 (omega arith) t.1,
      number_short 1 1000 cap c.0 (omega arith) c.1,
      number_short 1 1000000 price p.0 (omega arith) p.1,
      number_short 0 9999 link l.0 (omega arith) l.1,
    )
open_short (a ∷ b ∷ c ∷ d ∷ x ∷ xs) r e = absurd (cc)

book_short : (further : List (List ℕ)) (r : Request) → book_of further ≡ Ok r → lengths further ≤ 32
book_short [] r e = absurd (cc)
book_short (a ∷ []) r e = absurd (cc)
book_short (trip ∷ qty ∷ []) r e =
    let t = then_some (λ t. option_map (λ q. Book t q) (number_in 1 100 qty)) (trip_in trip) r (ok_some _ r e) in
    let q = map_some (λ q. Book t.0 q) (number_in 1 100 qty) r t.2 in
    omega (arith, number_short 1 9999 trip t.0 (omega arith) t.1, number_short 1 100 qty q.0 (omega arith) q.1)
book_short (a ∷ b ∷ x ∷ xs) r e = absurd (cc)

cancel_short : (further : List (List ℕ)) (r : Request) → cancel_of further ≡ Ok r → lengths further ≤ 32
cancel_short [] r e = absurd (cc)
cancel_short (booking ∷ []) r e =
    let b = map_some (λ b. Cancel b) (booking_in booking) r (ok_some _ r e) in
    omega (arith, number_short 1 1048576 booking b.0 (omega arith) b.1)
cancel_short (a ∷ x ∷ xs) r e = absurd (cc)

look_short : (further : List (List ℕ)) (r : Request) → look_of further ≡ Ok r → lengths further ≤ 32
look_short [] r e = absurd (cc)
look_short (booking ∷ []) r e =
    let b = map_some (λ b. Look b) (booking_in booking) r (ok_some _ r e) in
    omega (arith, number_short 1 1048576 booking b.0 (omega arith) b.1)
look_short (a ∷ x ∷ xs) r e = absurd (cc)

word_length : (first word : List ℕ) → bytes_eq first word ≡ true → length first ≡ length word
word_length first word e = ap (λ (z : List ℕ). length z) ((bytes_eq-Decides first word).0 e)

with_short : (first : List ℕ) (further : List (List ℕ)) (r : Request) → request_with first further ≡ Ok r → (length first ≤ 6) × (lengths further ≤ 32)
with_short first further r e = go (bytes_eq first (codes "open")) (bytes_eq first (codes "book"))
    (bytes_eq first (codes "cancel")) (bytes_eq first (codes "look")) refl refl refl refl e
  where
    go : (a b c d : Bool) → bytes_eq first (codes "open") ≡ a → bytes_eq first (codes "book") ≡ b
        → bytes_eq first (codes "cancel") ≡ c → bytes_eq first (codes "look") ≡ d
        → cond a (open_of further)
        (cond b (book_of further) (cond c (cancel_of further) (cond d (look_of further) (Err 1)))) ≡ Ok r
        → (length first ≤ 6) × (lengths further ≤ 32)
    go true b c d p q s t e = (omega (arith, word_length first (codes "open") p), open_short further r e)
    go false true c d p q s t e = (omega (arith, word_length first (codes "book") q), book_short further r e)
    go false false true d p q s t e = (omega (arith, word_length first (codes "cancel") s), cancel_short further r e)
    go false false false true p q s t e = (omega (arith, word_length first (codes "look") t), look_short further r e)
    go false false false false p q s t e = absurd (cc)

words_short : (words : List (List ℕ)) (r : Request) → request_in words ≡ Ok r → lengths words ≤ 40
words_short [] r e = absurd (cc)
words_short (first ∷ further) r e = let k = with_short first further r e in omega arith

pub text_short : (text : List ℕ) (r : Request) → request_of text ≡ Ok r → length text ≤ 48
text_short text r e = omega (arith, parts_length 32 text, words_short (words_of text) r e)
