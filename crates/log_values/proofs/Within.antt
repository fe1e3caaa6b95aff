-- A number between two others, as a test.
use Rattle.std.proofs.Common.{◌≡◌, ℕ, ◌≤◌, true}
use Rattle.std.specs.Prelude.{nat_le, ◌&&◌}
use Rattle.std.proofs.lemmas.Bool.{leb-true, le-leb, and_parts, and_from}

pub within : (low high n : ℕ) → (nat_le low n && nat_le n high) ≡ true → (low ≤ n) × (n ≤ high)
within low high n e =
    let both = and_parts (nat_le low n) (nat_le n high) e in
    (leb-true low n both.0, leb-true n high both.1)

pub is_within : (low high n : ℕ) → low ≤ n → n ≤ high → (nat_le low n && nat_le n high) ≡ true
is_within low high n p q = and_from (nat_le low n) (nat_le n high) (le-leb low n p) (le-leb n high q)
