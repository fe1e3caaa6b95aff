-- Items by index, and tiers.
pub use Rattle.log_model.proofs.Step.{put_same as put_here}
pub use Rattle.log_model.proofs.Basics.{get_left, get_cases, get_within, get_end, get_push, length_push}
pub use Rattle.server_model.proofs.Tiers.{tier_same, tier_eq}
use Rattle.std.proofs.Common.{◌≡◌, ℕ, true, false, List, [], ◌∷◌, ◌++◌, length, map, refl, sym, ap, subst, inl, inr, Option, Some, None, zero, suc, ◌<◌, arith}
use Rattle.std.specs.Prelude.{slice_get, ◌⊎◌, replicate, take}
use Rattle.std.proofs.lemmas.Bool.{cond-true, cond-false, ne_eqb}
use Rattle.log_model.proofs.Step.{put_other}
use Rattle.aeg_base.specs.declared.names.Tier.{Tier}
use Rattle.aeg_base.specs.declared.names.Tier.TheVariants.{Mid, Inv, Pay}
use Rattle.server_model.specs.Server.{same_tier}
use Rattle.round_model.specs.Lists.{is_some, tabulate, at, put_at, OfTiers, of_tier, with_tier}
use Rattle.run_model.specs.World.{put_tier}
use Rattle.run_model.specs.Histories.{put}

-- ITEMS BY INDEX

pub get_right : {A : Type 0} (xs ys : List A) (i : ℕ) (a : A) → slice_get ys i ≡ Some a → (j : ℕ) × (slice_get (xs ++ ys) j ≡ Some a)
get_right [] ys i a e = (i, e)
get_right (x ∷ xs) ys i a e = let r = get_right xs ys i a e in (suc r.0, r.1)

pub joined : {A : Type 0} (G : A → Type 0) (xs ys : List A) → ((i : ℕ) (a : A) → slice_get xs i ≡ Some a → G a)
    → ((i : ℕ) (a : A) → slice_get ys i ≡ Some a → G a) → (i : ℕ) (a : A) → slice_get (xs ++ ys) i ≡ Some a → G a
joined {A} G xs ys f g i a e = go (get_cases xs ys i a e)
  where
    go : (slice_get xs i ≡ Some a) ⊎ ((j : ℕ) × (slice_get ys j ≡ Some a)) → G a
    go (inl h) = f i a h
    go (inr h) = g h.0 a h.1

-- one item more
pub pushed : {A : Type 0} (G : A → Type 0) (xs : List A) (a : A) → ((i : ℕ) (b : A) → slice_get xs i ≡ Some b → G b)
    → G a → (i : ℕ) (b : A) → slice_get (xs ++ a ∷ []) i ≡ Some b → G b
pushed {A} G xs a k g i b e = go (get_push xs a i b e)
  where
    go : (slice_get xs i ≡ Some b) ⊎ ((i ≡ length xs) × (a ≡ b)) → G b
    go (inl q) = k i b q
    go (inr q) = subst G q.1 g

pub get_map : {A C : Type 0} (f : A → C) (xs : List A) (i : ℕ) (c : C) → slice_get (map f xs) i ≡ Some c → (a : A) × (slice_get xs i ≡ Some a) × (f a ≡ c)
get_map f [] i c e = absurd (cc)
get_map f (x ∷ xs) zero c e = (x, refl, cc)
get_map f (x ∷ xs) (suc i) c e = get_map f xs i c e

pub map_get : {A C : Type 0} (f : A → C) (xs : List A) (i : ℕ) (a : A) → slice_get xs i ≡ Some a → slice_get (map f xs) i ≡ Some (f a)
map_get f [] i a e = absurd (cc)
map_get f (x ∷ xs) zero a e = let s : x ≡ a = cc in ap (λ z. Some (f z)) s
map_get f (x ∷ xs) (suc i) a e = map_get f xs i a e

pub take_get : {A : Type 0} (n : ℕ) (xs : List A) (i : ℕ) (a : A) → slice_get (take n xs) i ≡ Some a → slice_get xs i ≡ Some a
take_get zero xs i a e = absurd (cc)
take_get (suc n) [] i a e = absurd (cc)
take_get (suc n) (x ∷ xs) zero a e = e
take_get (suc n) (x ∷ xs) (suc i) a e = take_get n xs i a e

pub get-tabulate : {A : Type 0} (n : ℕ) (f : ℕ → A) (i : ℕ) → i < n → slice_get (tabulate n f) i ≡ Some (f i)
get-tabulate zero f i l = absurd (omega arith)
get-tabulate (suc n) f zero l = refl
get-tabulate (suc n) f (suc i) l = get-tabulate n (λ i. f (suc i)) i (omega arith)

pub length-tabulate : {A : Type 0} (n : ℕ) (f : ℕ → A) → length (tabulate n f) ≡ n
length-tabulate zero f = refl
length-tabulate (suc n) f = omega (arith, length-tabulate n (λ i. f (suc i)))

pub some_of : {A : Type 0} (o : Option A) → is_some o ≡ true → (a : A) × (o ≡ Some a)
some_of None e = absurd (cc)
some_of (Some a) e = (a, refl)

pub at_here : {A : Type 0} (d : A) (xs : List A) (x : ℕ) (a : A) → at d (put_at d xs x a) x ≡ a
at_here d [] zero a = refl
at_here d [] (suc x) a = at_here d [] x a
at_here d (y ∷ xs) zero a = refl
at_here d (y ∷ xs) (suc x) a = at_here d xs x a

pub at_there : {A : Type 0} (d : A) (xs : List A) (x : ℕ) (a : A) (y : ℕ) → (y ≡ x → ⊥) → at d (put_at d xs x a) y ≡ at d xs y
at_there d [] zero a zero n = absurd (n refl)
at_there d [] zero a (suc y) n = refl
at_there d [] (suc x) a zero n = refl
at_there d [] (suc x) a (suc y) n = at_there d [] x a y (λ e. n (ap suc e))
at_there d (z ∷ xs) zero a zero n = absurd (n refl)
at_there d (z ∷ xs) zero a (suc y) n = refl
at_there d (z ∷ xs) (suc x) a zero n = refl
at_there d (z ∷ xs) (suc x) a (suc y) n = at_there d xs x a y (λ e. n (ap suc e))

pub at-replicate : {A : Type 0} (d : A) (n x : ℕ) → at d (replicate n d) x ≡ d
at-replicate d zero x = refl
at-replicate d (suc n) zero = refl
at-replicate d (suc n) (suc x) = at-replicate d n x

pub put_there : {A : Type 0} (f : ℕ → A) (x : ℕ) (a : A) (y : ℕ) → (y ≡ x → ⊥) → put f x a y ≡ f y
put_there f x a y e = put_other f x a y (ne_eqb y x e)

-- TIERS

pub tier_cases : (t v : Tier) → (t ≡ v) ⊎ (same_tier t v ≡ false)
tier_cases Mid Mid = inl refl
tier_cases Mid Inv = inr refl
tier_cases Mid Pay = inr refl
tier_cases Inv Mid = inr refl
tier_cases Inv Inv = inl refl
tier_cases Inv Pay = inr refl
tier_cases Pay Mid = inr refl
tier_cases Pay Inv = inr refl
tier_cases Pay Pay = inl refl

pub tier_sym : (w t : Tier) → same_tier w t ≡ false → same_tier t w ≡ false
tier_sym Mid Mid e = e
tier_sym Mid Inv e = e
tier_sym Mid Pay e = e
tier_sym Inv Mid e = e
tier_sym Inv Inv e = e
tier_sym Inv Pay e = e
tier_sym Pay Mid e = e
tier_sym Pay Inv e = e
tier_sym Pay Pay e = e

pub tier_here : {A : Type 0} (f : Tier → A) (t : Tier) (a : A) → put_tier f t a t ≡ a
tier_here f t a = cond-true (same_tier t t) a (f t) (tier_same t)

pub tier_there : {A : Type 0} (f : Tier → A) (t : Tier) (a : A) (v : Tier) → same_tier v t ≡ false → put_tier f t a v ≡ f v
tier_there f t a v e = cond-false (same_tier v t) a (f v) e

-- of two functions of tiers that change at one tier
pub both_tiers : {A C : Type 0} (P : Tier → A → C → Type 0) (f : Tier → A) (g : Tier → C) (t : Tier) (a : A) (b : C)
    → P t a b → ((v : Tier) → same_tier v t ≡ false → P v (f v) (g v)) → (v : Tier) → P v (put_tier f t a v) (put_tier g t b v)
both_tiers {A} {C} P f g t a b here there v = go (tier_cases v t)
  where
    go : (v ≡ t) ⊎ (same_tier v t ≡ false) → P v (put_tier f t a v) (put_tier g t b v)
    go (inl e) = subst (λ z. P z (put_tier f t a z) (put_tier g t b z)) (sym e)
        (subst (λ z. P t z (put_tier g t b t)) (sym (tier_here f t a)) (subst (P t a) (sym (tier_here g t b)) here))
    go (inr e) = subst (λ z. P v z (put_tier g t b v)) (sym (tier_there f t a v e)) (subst (P v (f v)) (sym (tier_there g t b v e)) (there v e))

pub by_tier : {A : Type 0} (P : Tier → A → Type 0) (f : Tier → A) (t : Tier) (a : A) → P t a
    → ((v : Tier) → same_tier v t ≡ false → P v (f v)) → (v : Tier) → P v (put_tier f t a v)
by_tier P f t a here there v = both_tiers (λ v z y. P v z) f f t a a here there v

pub of_here : {A : Type 0} (f : OfTiers A) (t : Tier) (a : A) → of_tier (with_tier f t a) t ≡ a
of_here f Mid a = refl
of_here f Inv a = refl
of_here f Pay a = refl

pub of_there : {A : Type 0} (f : OfTiers A) (t : Tier) (a : A) (v : Tier) → same_tier v t ≡ false → of_tier (with_tier f t a) v ≡ of_tier f v
of_there f Mid a Mid e = absurd (cc)
of_there f Mid a Inv e = refl
of_there f Mid a Pay e = refl
of_there f Inv a Mid e = refl
of_there f Inv a Inv e = absurd (cc)
of_there f Inv a Pay e = refl
of_there f Pay a Mid e = refl
of_there f Pay a Inv e = refl
of_there f Pay a Pay e = absurd (cc)
