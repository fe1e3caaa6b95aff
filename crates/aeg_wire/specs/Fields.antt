-- Fields of bytes: what each spells, and what stands at the front of bytes.
use Rattle.std.specs.Prelude.{◌≡◌, ℕ, ◌<◌, ◌≤◌, ◌^◌, List, [], ◌∷◌, ◌++◌, length, take, drop, Option, Some, None, nat_lt, if◌then◌else◌}
use Rattle.std.specs.Int.{Width, w16, w32, w64, byte_len, from_be_bytes, to_be_bytes}
use Rattle.aeg_base.specs.declared.limits.TheConstants.{TEXT_BYTES}

-- What is read at the front of bytes: a value and the bytes after it, or none.
abbrev pub Read : Type 0 → Type 0
Read A = Option (A × List ℕ)

-- the next field, from the value of this one and the bytes after it
infixl 10 ◌>>=◌
abbrev pub ◌>>=◌ : {A B : Type 0} → Read A → (A × List ℕ → Read B) → Read B
None >>= next = None
(Some field) >>= next = next field

-- a byte is at the front, unless none is left
abbrev pub byte_at : List ℕ → Read ℕ
byte_at [] = None
byte_at (byte ∷ rest) = Some (byte, rest)

-- so many bytes
abbrev pub bytes_at : ℕ → List ℕ → Read (List ℕ)
bytes_at n bytes = if nat_lt (length bytes) n then None else Some (take n bytes, drop n bytes)

-- the number that so many bytes spell, the highest first
abbrev pub number_at : Width → List ℕ → Read ℕ
number_at w bytes = if nat_lt (length bytes) (byte_len w) then None else Some (from_be_bytes w (take (byte_len w) bytes), drop (byte_len w) bytes)

-- a text's length in a byte, and its bytes
abbrev pub text : List ℕ → List ℕ
text bytes = length bytes ∷ bytes

-- a text within its limit
unfoldable pub text_at : List ℕ → Read (List ℕ)
text_at [] = None
text_at (len ∷ rest) = if nat_lt TEXT_BYTES len then None else bytes_at len rest

-- What a write leaves that was broken off: what stood there, and a front of what was to be written.
pub record IsBegun (old new spelling : List ℕ) : Type 0 where
  pub written : List ℕ
  pub left : List ℕ
  pub appended : new ≡ old ++ written
  pub parts : spelling ≡ written ++ left

-- What was taken, seen by view, is what stands at the front, and the cursor is after it. Where nothing was taken, the
-- cursor is where it was.
abbrev pub Took : {X A : Type 0} → (X → A) → Option X → List ℕ → List ℕ → Read A → Type 0
Took view None old new read = (read ≡ None) × (new ≡ old)
Took view (Some value) old new read = read ≡ Some (view value, new)

-- Each field that was written is read again, whatever follows it.
pub record IsReadAgain : Type 0 where
  pub byte : (n : ℕ) (rest : List ℕ) → byte_at (n ∷ rest) ≡ Some (n, rest)
  pub two : (n : ℕ) (rest : List ℕ) → n < 2 ^ 16 → number_at w16 (to_be_bytes w16 n ++ rest) ≡ Some (n, rest)
  pub four : (n : ℕ) (rest : List ℕ) → n < 2 ^ 32 → number_at w32 (to_be_bytes w32 n ++ rest) ≡ Some (n, rest)
  pub eight : (n : ℕ) (rest : List ℕ) → n < 2 ^ 64 → number_at w64 (to_be_bytes w64 n ++ rest) ≡ Some (n, rest)
  pub bytes : (some rest : List ℕ) → bytes_at (length some) (some ++ rest) ≡ Some (some, rest)
  pub text : (some rest : List ℕ) → length some ≤ TEXT_BYTES → text_at (text some ++ rest) ≡ Some (some, rest)

-- What begins with the spellings of two fields of one kind begins with one field, and has one rest.
pub record AreDistinct : Type 0 where
  pub two : (m n : ℕ) (x y : List ℕ) → m < 2 ^ 16 → n < 2 ^ 16 → to_be_bytes w16 m ++ x ≡ to_be_bytes w16 n ++ y → (m ≡ n) × (x ≡ y)
  pub four : (m n : ℕ) (x y : List ℕ) → m < 2 ^ 32 → n < 2 ^ 32 → to_be_bytes w32 m ++ x ≡ to_be_bytes w32 n ++ y → (m ≡ n) × (x ≡ y)
  pub eight : (m n : ℕ) (x y : List ℕ) → m < 2 ^ 64 → n < 2 ^ 64 → to_be_bytes w64 m ++ x ≡ to_be_bytes w64 n ++ y → (m ≡ n) × (x ≡ y)
  pub text : (a b x y : List ℕ) → length a ≤ TEXT_BYTES → length b ≤ TEXT_BYTES → text a ++ x ≡ text b ++ y → (a ≡ b) × (x ≡ y)
