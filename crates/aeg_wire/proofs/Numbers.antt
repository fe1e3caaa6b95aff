-- The grammars of numbers, bytes and texts.
use Rattle.std.proofs.Common.{◌≡◌, ℕ, ◌^◌, ◌<◌, ◌≤◌, Bool, true, false, cond, ltb, List, [], ◌∷◌, ◌++◌, length, take}
use Rattle.std.proofs.Common.{drop, Option, Some, None, refl, sym, ap, subst, ◌∙◌, arith}
use Rattle.std.specs.Int.{Width, w16, w32, w64, byte_len, from_be_bytes, to_be_bytes}
use Rattle.std.proofs.lemmas.Bool.{ltb-false, le-ltb}
use Rattle.std.proofs.lemmas.List.{take_at, drop_at, take-append-drop, length-append, length-take}
use Rattle.std.proofs.lemmas.Nat.{be_bytes_2, be_bytes_4, be_bytes_8, from_be_bytes-to_be_bytes_2, from_be_bytes-to_be_bytes_4, from_be_bytes-to_be_bytes_8}
use Rattle.std.proofs.lemmas.Option.{same_Some}
use Rattle.aeg_base.specs.declared.limits.TheConstants.{TEXT_BYTES}
use Rattle.aeg_wire.specs.Fields.{Read, byte_at, number_at, bytes_at, text, text_at}
use Rattle.aeg_wire.proofs.Grammar.{IsBytes, IsBytes-drop, IsBytes-take, IsBytes-rest, Takes, IsGrammar}

pub record IsWide (w : Width) (limit : ℕ) : Type 0 where
  pub len : (n : ℕ) → length (to_be_bytes w n) ≡ byte_len w
  pub back : (bytes : List ℕ) → length bytes ≡ byte_len w → IsBytes bytes → to_be_bytes w (from_be_bytes w bytes) ≡ bytes
  pub again : (n : ℕ) → n < limit → from_be_bytes w (to_be_bytes w n) ≡ n
  pub below : (bytes : List ℕ) → IsBytes bytes → from_be_bytes w bytes < limit

wide16 : IsWide w16 (2 ^ 16)
wide16 = record {
  len = λ n. refl;
  back = λ bytes len fits. be_bytes_2 bytes _ len fits refl;
  again = λ n lt. from_be_bytes-to_be_bytes_2 n lt;
  below = λ bytes fits. omega (arith, fits 0, fits 1);
}

wide32 : IsWide w32 (2 ^ 32)
wide32 = record {
  len = λ n. refl;
  back = λ bytes len fits. be_bytes_4 bytes _ len fits refl;
  again = λ n lt. from_be_bytes-to_be_bytes_4 n lt;
  below = λ bytes fits. omega (arith, fits 0, fits 1, fits 2, fits 3);
}

wide64 : IsWide w64 (2 ^ 64)
wide64 = record {
  len = λ n. refl;
  back = λ bytes len fits. be_bytes_8 bytes _ len fits refl;
  again = λ n lt. from_be_bytes-to_be_bytes_8 n lt;
  below = λ bytes fits. omega (arith, fits 0, fits 1, fits 2, fits 3, fits 4, fits 5, fits 6, fits 7);
}

pub bytes_take : (n : ℕ) (bytes some rest : List ℕ) → IsBytes bytes → bytes_at n bytes ≡ Some (some, rest) → Takes bytes some rest × (length some ≡ n)
bytes_take n bytes some rest fits e =
    let g = cond_not (ltb (length bytes) n) (take n bytes, drop n bytes) (some, rest) e in
    let long : n ≤ length bytes = ltb-false _ _ g.0 in
    let taken : Takes bytes (take n bytes) (drop n bytes) = record { parts = sym (take-append-drop n bytes); rest_fits = IsBytes-drop n bytes fits } in
    subst (λ (p : List ℕ × List ℕ). Takes bytes p.0 p.1 × (length p.0 ≡ n)) g.1 (taken, omega (arith, length-take n bytes))
  where
    cond_not : {A : Type 0} (b : Bool) (x y : A) → cond b None (Some x) ≡ Some y → (b ≡ false) × (x ≡ y)
    cond_not true x y e = absurd cc
    cond_not false x y e = (refl, same_Some x y e)

pub bytes_again : (some rest : List ℕ) → bytes_at (length some) (some ++ rest) ≡ Some (some, rest)
bytes_again some rest =
    let long : ltb (length (some ++ rest)) (length some) ≡ false = le-ltb _ _ (omega (arith, length-append some rest)) in
    rw (long, take_at some rest (length some) refl, drop_at some rest (length some) refl) refl

by_test : (b : Bool) (m n : ℕ) (front after rest : List ℕ) → cond {A = Read ℕ} b None (Some (m, after)) ≡ Some (n, rest)
    → (cond {A = Read (List ℕ)} b None (Some (front, after)) ≡ Some (front, rest)) × (n ≡ m)
by_test true m n front after rest e = absurd cc
by_test false m n front after rest e =
    let same = same_Some (m, after) (n, rest) e in
    (ap (λ (p : ℕ × List ℕ). Some (front, p.1)) same, ap (λ (p : ℕ × List ℕ). p.0) (sym same))

-- a number's bytes, before they are a number
number_front : (w : Width) (bytes : List ℕ) (n : ℕ) (rest : List ℕ) → number_at w bytes ≡ Some (n, rest)
    → (bytes_at (byte_len w) bytes ≡ Some (take (byte_len w) bytes, rest)) × (n ≡ from_be_bytes w (take (byte_len w) bytes))
number_front w bytes n rest e = by_test (ltb (length bytes) (byte_len w)) (from_be_bytes w (take (byte_len w) bytes)) n
    (take (byte_len w) bytes) (drop (byte_len w) bytes) rest e

pub number_grammar : (w : Width) (limit : ℕ) → IsWide w limit → IsGrammar (λ n. n < limit) (λ n. to_be_bytes w n) (number_at w)
number_grammar w limit wide = record {
  takes = λ bytes n rest fits e.
      let g = number_front w bytes n rest e in
      let t = bytes_take (byte_len w) bytes (take (byte_len w) bytes) rest fits g.0 in
      let back : to_be_bytes w n ≡ take (byte_len w) bytes = ap (to_be_bytes w) g.1
      ∙ wide.back (take (byte_len w) bytes) t.1 (IsBytes-take (byte_len w) bytes fits) in (
        subst (λ (z : List ℕ). Takes bytes z rest) (sym back) t.0,
        subst (λ (m : ℕ). m < limit) (sym g.1) (wide.below (take (byte_len w) bytes) (IsBytes-take (byte_len w) bytes fits)),
      );
  again = λ n rest lt.
      let len = wide.len n in
      let long : ltb (length (to_be_bytes w n ++ rest)) (byte_len w) ≡ false = le-ltb _ _ (omega (arith, length-append (to_be_bytes w n) rest)) in
      rw (long, take_at (to_be_bytes w n) rest (byte_len w) len, drop_at (to_be_bytes w n) rest (byte_len w) len, wide.again n lt) refl;
}

pub two_bytes : IsGrammar (λ n. n < 2 ^ 16) (λ n. to_be_bytes w16 n) (number_at w16)
two_bytes = number_grammar w16 (2 ^ 16) wide16

pub four_bytes : IsGrammar (λ n. n < 2 ^ 32) (λ n. to_be_bytes w32 n) (number_at w32)
four_bytes = number_grammar w32 (2 ^ 32) wide32

pub eight_bytes : IsGrammar (λ n. n < 2 ^ 64) (λ n. to_be_bytes w64 n) (number_at w64)
eight_bytes = number_grammar w64 (2 ^ 64) wide64

byte_takes : (bytes : List ℕ) (n : ℕ) (rest : List ℕ) → IsBytes bytes → byte_at bytes ≡ Some (n, rest) → Takes bytes (n ∷ []) rest × (n < 256)
byte_takes [] n rest fits e = absurd cc
byte_takes (b ∷ bytes) n rest fits e =
    subst (λ (p : ℕ × List ℕ). Takes (b ∷ bytes) (p.0 ∷ []) p.1 × (p.0 < 256)) (same_Some (b, bytes) (n, rest) e)
    (record { parts = refl; rest_fits = IsBytes-rest b bytes fits }, fits 0)

pub one_byte : IsGrammar (λ n. n < 256) (λ n. n ∷ []) byte_at
one_byte = record { takes = byte_takes; again = λ n rest lt. refl }

text_takes : (bytes some rest : List ℕ) → IsBytes bytes → text_at bytes ≡ Some (some, rest) → Takes bytes (text some) rest × (length some ≤ TEXT_BYTES)
unfolding text_at
text_takes [] some rest fits e = absurd cc
text_takes (len ∷ bytes) some rest fits e =
    let g = cond_none (ltb TEXT_BYTES len) (bytes_at len bytes) (some, rest) e in
    let t = bytes_take len bytes some rest (IsBytes-rest len bytes fits) g.1 in
    let short : len ≤ TEXT_BYTES = ltb-false _ _ g.0 in
    let parts : len ∷ bytes ≡ text some ++ rest = ap (λ (z : List ℕ). len ∷ z) t.0.parts ∙ ap (λ (k : ℕ). k ∷ (some ++ rest)) (sym t.1) in
    (record { parts = parts; rest_fits = t.0.rest_fits }, omega (arith, t.1))
  where
    cond_none : {A : Type 0} (b : Bool) (x : Option A) (y : A) → cond b None x ≡ Some y → (b ≡ false) × (x ≡ Some y)
    cond_none true x y e = absurd cc
    cond_none false x y e = (refl, e)

text_again : (some rest : List ℕ) → length some ≤ TEXT_BYTES → text_at (text some ++ rest) ≡ Some (some, rest)
unfolding text_at
text_again some rest le =
    let short : ltb TEXT_BYTES (length some) ≡ false = le-ltb _ _ le in
    rw (short, bytes_again some rest) refl

pub text_grammar : IsGrammar (λ t. length t ≤ TEXT_BYTES) text text_at
text_grammar = record { takes = text_takes; again = text_again }
