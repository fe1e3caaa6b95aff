-- A list without repetitions is no longer than one that has all of its members.
use Rattle.std.proofs.Common.{◌≡◌, suc, ◌≤◌, Bool, true, false, cond, List, [], ◌∷◌, length, refl, sym, ap, ◌∙◌, arith}
use Rattle.std.specs.Prelude.{◌||◌, if◌then◌else◌}
use Rattle.std.proofs.lemmas.Bool.{both_ways, or_left, or_right}

abbrev pub has : {A : Type 0} → (A → A → Bool) → List A → A → Bool
has same [] x = false
has same (y ∷ ys) x = same x y || has same ys x

-- none stands twice
abbrev pub IsOnce : {A : Type 0} → (A → A → Bool) → List A → Type 0
IsOnce same [] = Unit {0}
IsOnce same (x ∷ xs) = (has same xs x ≡ false) × IsOnce same xs

-- a test that tells equal items
pub record Tells {A : Type 0} (same : A → A → Bool) : Type 0 where
  pub equal : (x y : A) → same x y ≡ true → x ≡ y
  pub itself : (x : A) → same x x ≡ true

-- the list without the first that is x
abbrev without : {A : Type 0} → (A → A → Bool) → List A → A → List A
without same [] x = []
without same (y ∷ ys) x = if same x y then ys else y ∷ without same ys x

length-without : {A : Type 0} (same : A → A → Bool) (ys : List A) (x : A) → has same ys x ≡ true → length ys ≡ suc (length (without same ys x))
length-without same [] x h = absurd (cc)
length-without {A} same (y ∷ ys) x h = at (same x y) h (length-without same ys x)
  where
    at : (b : Bool) → (b || has same ys x) ≡ true
        → (has same ys x ≡ true → length ys ≡ suc (length (without same ys x)))
        → suc (length ys) ≡ suc (length (cond b ys (y ∷ without same ys x)))
    at true h rec = refl
    at false h rec = ap suc (rec h)

has-without : {A : Type 0} (same : A → A → Bool) → Tells same → (ys : List A) (x z : A) → has same ys z ≡ true
    → same z x ≡ false → has same (without same ys x) z ≡ true
has-without same t [] x z h n = h
has-without {A} same t (y ∷ ys) x z h n = at (same x y) refl (has-without same t ys x z)
  where
    left : (b : Bool) → (b ≡ true → ⊥) → (b || has same ys z) ≡ true → has same ys z ≡ true
    left true k e = absurd (k refl)
    left false k e = e

    more : (b : Bool) → (b || has same ys z) ≡ true → (has same ys z ≡ true → has same (without same ys x) z ≡ true)
        → (b || has same (without same ys x) z) ≡ true
    more true e rec = refl
    more false e rec = rec e

    at : (b : Bool) → same x y ≡ b → (has same ys z ≡ true → same z x ≡ false → has same (without same ys x) z ≡ true)
        → has same (cond b ys (y ∷ without same ys x)) z ≡ true
    at true e rec = left (same z y) (λ f. both_ways (same z x) n (ap (same z) (t.equal x y e) ∙ f)) h
    at false e rec = more (same z y) h (λ k. rec k n)

pub no_longer : {A : Type 0} (same : A → A → Bool) → Tells same → (xs ys : List A) → IsOnce same xs
    → ((z : A) → has same xs z ≡ true → has same ys z ≡ true) → length xs ≤ length ys
no_longer same t [] ys o h = omega arith
no_longer {A} same t (x ∷ xs) ys o h =
    let k : has same ys x ≡ true = h x (or_left (same x x) (has same xs x) (t.itself x)) in
    omega (
      arith,
      length-without same ys x k,
      no_longer same t xs (without same ys x) o.1
          (λ z g. has-without same t ys x z (h z (or_right (same z x) (has same xs z) g)) (apart z (same z x) refl g)),
    )
  where
    apart : (z : A) (b : Bool) → same z x ≡ b → has same xs z ≡ true → b ≡ false
    apart z false e g = refl
    apart z true e g = absurd (both_ways (has same xs x) o.0 (ap (has same xs) (sym (t.equal z x e)) ∙ g))
