-- Where the items of a list stand, and what is found there.
use Rattle.std.proofs.Common.{◌≡◌, ℕ, zero, suc, ◌+◌, ◌<◌, ◌≤◌, Bool, true, false, cond, ◌==◌, ◌&&◌, List, [], ◌∷◌}
use Rattle.std.proofs.Common.{◌++◌, length, if◌then◌else◌, refl, sym, ap, subst, ◌∙◌, None, Some, Option, arith, take}
use Rattle.std.proofs.Common.{◌-◌, length-append}
use Rattle.std.specs.Prelude.{slice_index_or}
use Rattle.std.proofs.Math.Seq.{take-append_seam}
use Rattle.std.proofs.lemmas.Bool.{and_from, and_parts, eq-eqb, eqb-true}
use Rattle.std.proofs.lemmas.Option.{same_Some}
use Rattle.aeg_base.specs.declared.names.Tier.{Tier}
use Rattle.server_model.specs.Server.{same_tier, found_in}
use Rattle.server_model.proofs.Tiers.{tier_eq, tier_same}
use Rattle.one_server.specs.Places.{place_from, place_in, AreIndexed, Sets, Loses}
use Rattle.one_server.specs.declared.places.Places.{Places}

-- where no place is, nothing is found, and the other way round
pub absent : {T : Type 0} (at : ℕ) (items : List (Tier × ℕ × T)) (tier : Tier) (number : ℕ)
    → place_from at items tier number ≡ None → found_in items tier number ≡ None
absent at [] tier number e = refl
absent at (item ∷ items) tier number e = by (same_tier item.0 tier && (item.1 == number)) (absent (at + 1) items tier number) e
  where
    by : (b : Bool) → (place_from (at + 1) items tier number ≡ None → found_in items tier number ≡ None)
        → cond b (Some at) (place_from (at + 1) items tier number) ≡ None → cond b (Some item.2) (found_in items tier number) ≡ None
    by true ih e = cc
    by false ih e = ih e

pub no_place : {T : Type 0} (at : ℕ) (items : List (Tier × ℕ × T)) (tier : Tier) (number : ℕ)
    → found_in items tier number ≡ None → place_from at items tier number ≡ None
no_place at [] tier number e = refl
no_place at (item ∷ items) tier number e = by (same_tier item.0 tier && (item.1 == number)) (no_place (at + 1) items tier number) e
  where
    by : (b : Bool) → (found_in items tier number ≡ None → place_from (at + 1) items tier number ≡ None)
        → cond b (Some item.2) (found_in items tier number) ≡ None → cond b (Some at) (place_from (at + 1) items tier number) ≡ None
    by true ih e = cc
    by false ih e = ih e

-- a place is one of the list, and its item is what is found
pub within : {T : Type 0} (at : ℕ) (items : List (Tier × ℕ × T)) (tier : Tier) (number : ℕ) (place : ℕ)
    → place_from at items tier number ≡ Some place → (at ≤ place) × (place < at + length items)
within at [] tier number place e = cc
within at (item ∷ items) tier number place e = by (same_tier item.0 tier && (item.1 == number)) (within (at + 1) items tier number place) e
  where
    by : (b : Bool) → (place_from (at + 1) items tier number ≡ Some place → (at + 1 ≤ place) × (place < (at + 1) + length items))
        → cond b (Some at) (place_from (at + 1) items tier number) ≡ Some place → (at ≤ place) × (place < at + suc (length items))
    by true ih e = let same = same_Some at place e in (omega arith, omega arith)
    by false ih e = let rest = ih e in (omega (arith, rest.0), omega (arith, rest.1))

pub placed : {T : Type 0} (at : ℕ) (items : List (Tier × ℕ × T)) (tier : Tier) (number : ℕ) (k : ℕ) (d : Tier × ℕ × T)
    → place_from at items tier number ≡ Some (at + k)
    → found_in items tier number ≡ Some (slice_index_or items k d).2
placed at [] tier number k d e = cc
placed at (item ∷ items) tier number zero d e = by (same_tier item.0 tier && (item.1 == number)) (within (at + 1) items tier number (at + zero)) e
  where
    by : (b : Bool) → (place_from (at + 1) items tier number ≡ Some (at + zero) → (at + 1 ≤ at + zero) × (at + zero < (at + 1) + length items))
        → cond b (Some at) (place_from (at + 1) items tier number) ≡ Some (at + zero) → cond b (Some item.2) (found_in items tier number) ≡ Some item.2
    by true ih e = refl
    by false ih e = let rest = ih e in absurd (omega (arith, rest.0))
placed at (item ∷ items) tier number (suc k) d e = by (same_tier item.0 tier && (item.1 == number)) (placed (at + 1) items tier number k d) e
  where
    by : (b : Bool) → (place_from (at + 1) items tier number ≡ Some ((at + 1) + k) → found_in items tier number ≡ Some (slice_index_or items k d).2)
        → cond b (Some at) (place_from (at + 1) items tier number) ≡ Some (at + suc k)
        → cond b (Some item.2) (found_in items tier number) ≡ Some (slice_index_or items k d).2
    by true ih e = let same = same_Some at (at + suc k) e in absurd (omega arith)
    by false ih e = let more : at + suc k ≡ (at + 1) + k = omega arith in ih (e ∙ ap (λ (n : ℕ). Some n) more)

-- two items that both are the number's are one another's
alike : (a b tier : Tier) (m n number : ℕ) → (same_tier a tier && (m == number)) ≡ true
    → (same_tier b tier && (n == number)) ≡ true → (same_tier a b && (m == n)) ≡ true
alike a b tier m n number p q =
    let first = and_parts (same_tier a tier) (m == number) p in
    let second = and_parts (same_tier b tier) (n == number) q in
    let tiers : a ≡ b = tier_eq a tier first.0 ∙ sym (tier_eq b tier second.0) in
    let numbers : m ≡ n = eqb-true m number first.1 ∙ sym (eqb-true n number second.1) in
    and_from (same_tier a b) (m == n) (subst (λ (t : Tier). same_tier a t ≡ true) tiers (tier_same a))
    (subst (λ (k : ℕ). (m == k) ≡ true) numbers (eq-eqb m m refl))

-- one more item at the end has the next place, where none had its number
pub place-append : {T : Type 0} (at : ℕ) (items : List (Tier × ℕ × T)) (new : Tier × ℕ × T) (tier : Tier) (number : ℕ) → place_from at items new.0 new.1 ≡ None
    → place_from at (items ++ new ∷ []) tier number
    ≡ (if same_tier new.0 tier && (new.1 == number) then Some (at + length items) else place_from at items tier number)
place-append at [] new tier number none = by (same_tier new.0 tier && (new.1 == number))
  where
    by : (b : Bool) → ◌≡◌ {A = Option ℕ} (cond b (Some at) None) (cond b (Some (at + 0)) None)
    by true = ap (λ (n : ℕ). Some n) (omega arith)
    by false = refl
place-append {T} at (item ∷ items) new tier number none =
    by (same_tier item.0 new.0 && (item.1 == new.1)) (same_tier item.0 tier && (item.1 == number)) (same_tier new.0 tier && (new.1 == number))
    (alike item.0 new.0 tier item.1 new.1 number) (place-append (at + 1) items new tier number) none
  where
    by : (s c d : Bool) → (c ≡ true → d ≡ true → s ≡ true)
        → (place_from (at + 1) items new.0 new.1 ≡ None → place_from (at + 1) (items ++ new ∷ []) tier number
        ≡ cond d (Some ((at + 1) + length items)) (place_from (at + 1) items tier number))
        → cond s (Some at) (place_from (at + 1) items new.0 new.1) ≡ None
        → cond c (Some at) (place_from (at + 1) (items ++ new ∷ []) tier number)
        ≡ cond d (Some (at + suc (length items))) (cond c (Some at) (place_from (at + 1) items tier number))
    by true c d apart ih e = cc
    by false true true apart ih e = let z : false ≡ true = apart refl refl in cc
    by false true false apart ih e = refl
    by false false d apart ih e = ih e ∙ ap (λ (n : ℕ). cond d (Some n) (place_from (at + 1) items tier number)) (omega arith)

pub placed_at : {T : Type 0} (items : List (Tier × ℕ × T)) (tier : Tier) (number : ℕ) (k : ℕ) (d : Tier × ℕ × T) → place_from 0 items tier number ≡ Some k
    → found_in items tier number ≡ Some (slice_index_or items k d).2
placed_at items tier number k d e = let same : k ≡ 0 + k = omega arith in placed 0 items tier number k d (e ∙ ap (λ (n : ℕ). Some n) same)

-- places that had a list's items have those of the list with one more
pub indexed_more : {T : Type 0} (items more : List (Tier × ℕ × T)) (old new : Places) (tier : Tier) (number : ℕ) (item : T) (place : ℕ)
    → AreIndexed items old → Sets old new tier number place → place ≡ length items → found_in items tier number ≡ None
    → more ≡ items ++ (tier, number, item) ∷ [] → AreIndexed more new
indexed_more {T} items more old new tier number item place indexed sets last none same t n =
    let placed : place ≡ 0 + length items = omega arith in
    sets t n
    ∙ ap (λ (o : Option ℕ). if same_tier tier t && (number == n) then Some place else o) (indexed t n)
    ∙ ap (λ (k : ℕ). if same_tier tier t && (number == n) then Some k else place_from 0 items t n) placed
    ∙ sym (place-append 0 items (tier, number, item) t n (no_place 0 items tier number none))
    ∙ ap (λ (xs : List (Tier × ℕ × T)). place_from 0 xs t n) (sym same)

-- what the last item has makes no place
pub place-last : {T : Type 0} (at : ℕ) (items : List (Tier × ℕ × T)) (a b : Tier × ℕ × T) (tier : Tier) (number : ℕ) → a.0 ≡ b.0 → a.1 ≡ b.1
    → place_from at (items ++ a ∷ []) tier number ≡ place_from at (items ++ b ∷ []) tier number
place-last at [] a b tier number p q = λ i. if same_tier (p i) tier && (q i == number) then Some at else None
place-last at (item ∷ items) a b tier number p q =
    ap (λ (o : Option ℕ). if same_tier item.0 tier && (item.1 == number) then Some at else o) (place-last (at + 1) items a b tier number p q)

-- places that had a list's items have those of the list without its last, whose number is there once
pub indexed_less : {T : Type 0} (front whole : List (Tier × ℕ × T)) (old new : Places) (tier : Tier) (number : ℕ) (item : T)
    → AreIndexed whole old → Loses old new tier number → found_in front tier number ≡ None → whole ≡ front ++ (tier, number, item) ∷ [] → AreIndexed front new
indexed_less {T} front whole old new tier number item indexed loses none same t n =
    loses t n ∙ by (same_tier tier t && (number == n)) refl
  where
    before : place_in old t n ≡ (if same_tier tier t && (number == n) then Some (0 + length front) else place_from 0 front t n)
    before = indexed t n ∙ ap (λ (xs : List (Tier × ℕ × T)). place_from 0 xs t n) same
        ∙ place-append 0 front (tier, number, item) t n (no_place 0 front tier number none)

    by : (b : Bool) → (same_tier tier t && (number == n)) ≡ b → cond b None (place_in old t n) ≡ place_from 0 front t n
    by true e =
        let parts = and_parts (same_tier tier t) (number == n) e in
        let tiers = tier_eq tier t parts.0 in
        let numbers = eqb-true number n parts.1 in
        sym (no_place 0 front t n (ap (λ (x : Tier). found_in front x n) (sym tiers) ∙ ap (λ (x : ℕ). found_in front tier x) (sym numbers) ∙ none))
    by false e = before ∙ ap (λ b. cond b (Some (0 + length front)) (place_from 0 front t n)) e

-- a list without its last item
pub without_last : {A : Type 0} (front whole : List A) (x : A) → whole ≡ front ++ x ∷ [] → take (length whole - 1) whole ≡ front
without_last front whole x same =
    ap (λ xs. take (length xs - 1) xs) same
    ∙ ap (λ (n : ℕ). take n (front ++ x ∷ [])) (omega (arith, length-append front (x ∷ []))) ∙ take-append_seam front (x ∷ [])
