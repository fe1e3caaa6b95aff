-- The codes of the Held facts that a node wrote, the oldest first.
use Rattle.std.proofs.Common.{◌≡◌, ℕ, Bool, true, false, cond, List, [], ◌∷◌, ◌++◌, refl, sym, ap, ◌∙◌, subst, inl, inr, Option, Some, None, zero, suc}
use Rattle.std.specs.Prelude.{slice_get, ◌⊎◌, ◌==◌, ◌&&◌, if◌then◌else◌}
use Rattle.std.proofs.lemmas.Bool.{and_from, and_parts, cond-true, eq-eqb, eqb-true}
use Rattle.std.proofs.lemmas.List.{append-nil, append_assoc}
use Rattle.std.proofs.lemmas.Option.{cond_some}
use Rattle.aeg_base.specs.declared.names.Tier.{Tier}
use Rattle.server_model.specs.Server.{same_tier}
use Rattle.log_values.specs.declared.fact.Fact.{Fact}
use Rattle.log_values.specs.declared.fact.Fact.TheVariants.{Promised, Accepted, Learned, Held}
use Rattle.log_model.specs.Recover.{onto}
use Rattle.round_model.specs.Lists.{is_some}
use Rattle.tier_laws.proofs.Lists.ItemsByIndex.{some_of, tier_eq, tier_same}

-- the code of a call
pub record Code : Type 0 where
  pub tier : Tier
  pub num : ℕ
  pub code : ℕ

-- the first code of the call
abbrev pub code_of : List Code → Tier → ℕ → Option ℕ
code_of [] t n = None
code_of (c ∷ cs) t n = if same_tier c.tier t && (c.num == n) then Some c.code else code_of cs t n

-- those of facts that have the oldest in front
abbrev pub helds : List Fact → List Code
helds [] = []
helds (Promised b ∷ fs) = helds fs
helds (Accepted p b v ∷ fs) = helds fs
helds (Learned p v ∷ fs) = helds fs
helds (Held t n code ∷ fs) = record { tier = t; num = n; code = code } ∷ helds fs

-- those of facts that have the newest in front
abbrev pub codes_in : List Fact → List Code
codes_in [] = []
codes_in (Promised b ∷ fs) = codes_in fs
codes_in (Accepted p b v ∷ fs) = codes_in fs
codes_in (Learned p v ∷ fs) = codes_in fs
codes_in (Held t n code ∷ fs) = codes_in fs ++ record { tier = t; num = n; code = code } ∷ []

pub codes_in-onto : (fs F : List Fact) → codes_in (onto fs F) ≡ codes_in F ++ helds fs
codes_in-onto [] F = sym (append-nil (codes_in F))
codes_in-onto (Promised b ∷ fs) F = codes_in-onto fs (Promised b ∷ F)
codes_in-onto (Accepted p b v ∷ fs) F = codes_in-onto fs (Accepted p b v ∷ F)
codes_in-onto (Learned p v ∷ fs) F = codes_in-onto fs (Learned p v ∷ F)
codes_in-onto (Held t n code ∷ fs) F = codes_in-onto fs (Held t n code ∷ F) ∙ append_assoc (codes_in F) _ (helds fs)

-- CODES BY TIER AND NUMBER

pub same_number : (t : Tier) (n : ℕ) → (same_tier t t && (n == n)) ≡ true
same_number t n = and_from (same_tier t t) (n == n) (tier_same t) (eq-eqb n n refl)

pub code_at : (cs : List Code) (t : Tier) (n code : ℕ) → code_of cs t n ≡ Some code → (i : ℕ) × (k : Code)
    × (slice_get cs i ≡ Some k) × (k.tier ≡ t) × (k.num ≡ n) × (k.code ≡ code)
code_at [] t n code e = absurd (cc)
code_at (c ∷ cs) t n code e = go ((same_tier c.tier t && (c.num == n))) refl e (code_at cs t n code)
  where
    go : (b : Bool) → (same_tier c.tier t && (c.num == n)) ≡ b → cond b (Some c.code) (code_of cs t n) ≡ Some code
        → (code_of cs t n ≡ Some code → (i : ℕ) × (k : Code) × (slice_get cs i ≡ Some k) × (k.tier ≡ t) × (k.num ≡ n)
        × (k.code ≡ code))
        → (i : ℕ) × (k : Code) × (slice_get (c ∷ cs) i ≡ Some k) × (k.tier ≡ t) × (k.num ≡ n) × (k.code ≡ code)
    go true f e r = let p = and_parts (same_tier c.tier t) ((c.num == n)) f in (0, c, refl, tier_eq c.tier t p.0, eqb-true c.num n p.1, cc)
    go false f e r = let q = r e in (suc q.0, q.1, q.2, q.3, q.4, q.5)

pub code_of-left : (cs ds : List Code) (t : Tier) (n code : ℕ) → code_of cs t n ≡ Some code → code_of (cs ++ ds) t n ≡ Some code
code_of-left [] ds t n code e = absurd (cc)
code_of-left (c ∷ cs) ds t n code e = go _ e (code_of-left cs ds t n code)
  where
    go : (b : Bool) → cond b (Some c.code) (code_of cs t n) ≡ Some code
        → (code_of cs t n ≡ Some code → code_of (cs ++ ds) t n ≡ Some code)
        → cond b (Some c.code) (code_of (cs ++ ds) t n) ≡ Some code
    go true f r = f
    go false f r = r f

pub code_of-more : (cs ds : List Code) (t : Tier) (n : ℕ) → is_some (code_of cs t n) ≡ true → is_some (code_of (cs ++ ds) t n) ≡ true
code_of-more cs ds t n e = let a = some_of (code_of cs t n) e in ap is_some (code_of-left cs ds t n a.0 a.1)

pub code_of-right : (cs : List Code) (t : Tier) (n code : ℕ) → code_of cs t n ≡ None
    → code_of (cs ++ record { tier = t; num = n; code = code } ∷ []) t n ≡ Some code
code_of-right [] t n code e = cond-true (same_tier t t && (n == n)) (Some code) None (same_number t n)
code_of-right (c ∷ cs) t n code e = go (same_tier c.tier t && (c.num == n)) e (code_of-right cs t n code)
  where
    go : (b : Bool) → cond b (Some c.code) (code_of cs t n) ≡ None
        → (code_of cs t n ≡ None → code_of (cs ++ record { tier = t; num = n; code = code } ∷ []) t n ≡ Some code)
        → cond b (Some c.code) (code_of (cs ++ record { tier = t; num = n; code = code } ∷ []) t n) ≡ Some code
    go true f r = absurd (cc)
    go false f r = r f

pub code_of-push : (cs : List Code) (t : Tier) (n code : ℕ) → is_some (code_of (cs ++ record { tier = t; num = n; code = code } ∷ []) t n) ≡ true
code_of-push cs t n code = go (code_of cs t n) refl
  where
    go : (o : Option ℕ) → code_of cs t n ≡ o → is_some (code_of (cs ++ record { tier = t; num = n; code = code } ∷ []) t n) ≡ true
    go None e = ap is_some (code_of-right cs t n code e)
    go (Some a) e = ap is_some (code_of-left cs (record { tier = t; num = n; code = code } ∷ []) t n a e)

pub code_of-cases : (cs : List Code) (k : Code) (t : Tier) (n code : ℕ) → code_of (cs ++ k ∷ []) t n ≡ Some code
    → (code_of cs t n ≡ Some code) ⊎ ((k.num ≡ n) × (k.code ≡ code))
code_of-cases [] k t n code e = let p = cond_some (same_tier k.tier t && (k.num == n)) k.code code e in inr
    (eqb-true k.num n (and_parts (same_tier k.tier t) (k.num == n) p.0).1, p.1)
code_of-cases (c ∷ cs) k t n code e = go (same_tier c.tier t && (c.num == n)) e (code_of-cases cs k t n code)
  where
    go : (b : Bool) → cond b (Some c.code) (code_of (cs ++ k ∷ []) t n) ≡ Some code
        → (code_of (cs ++ k ∷ []) t n ≡ Some code → (code_of cs t n ≡ Some code) ⊎ ((k.num ≡ n) × (k.code ≡ code)))
        → (cond b (Some c.code) (code_of cs t n) ≡ Some code) ⊎ ((k.num ≡ n) × (k.code ≡ code))
    go true f r = inl f
    go false f r = r f

pub code_of-at : (cs : List Code) (i : ℕ) (k : Code) → slice_get cs i ≡ Some k → is_some (code_of cs k.tier k.num) ≡ true
code_of-at [] i k e = absurd (cc)
code_of-at (c ∷ cs) zero k e =
    let s : c ≡ k = cc in
    subst (λ (z : Code). is_some (code_of (c ∷ cs) z.tier z.num) ≡ true) s
    (ap is_some (cond-true (same_tier c.tier c.tier && (c.num == c.num)) (Some c.code) (code_of cs c.tier c.num)
    (same_number c.tier c.num)))
code_of-at (c ∷ cs) (suc i) k e = go (same_tier c.tier k.tier && (c.num == k.num)) (code_of-at cs i k e)
  where
    go : (b : Bool) → is_some (code_of cs k.tier k.num) ≡ true → is_some (cond b (Some c.code) (code_of cs k.tier k.num)) ≡ true
    go true f = refl
    go false f = f
