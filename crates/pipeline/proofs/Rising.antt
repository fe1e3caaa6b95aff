-- The numbers of calls rise.
use Rattle.std.proofs.Common.{◌≡◌, ℕ, suc, ◌+◌, ◌≤◌, Bool, true, false, List, [], ◌∷◌, ◌++◌, length, if◌then◌else◌, refl, subst, arith}
use Rattle.std.proofs.lemmas.Bool.Decides.{nat_tests}
use Rattle.aeg_base.specs.declared.names.Tier.{Tier}
use Rattle.aeg_base.specs.declared.names.Tier.TheVariants.{Mid, Inv, Pay}
use Rattle.svc_api.specs.declared.action.Ending.{Ending}
use Rattle.svc_api.specs.declared.action.Ending.TheVariants.{Reply, Call}
use Rattle.server_model.specs.Server.{same_tier}
use Rattle.round_model.specs.Lists.{OfTiers, of_tier, concat}
use Rattle.round_model.specs.Numbered.{rises}
use Rattle.round_model.specs.Tables.{Parked, Want, bump, next_after, parks}
use Rattle.pipeline.specs.States.{RoundsState, calling, numbered}
use Rattle.pipeline.specs.Kept.{IsInRange, Rise}

pub rise_ends : (lo hi : ℕ) (ps : List Parked) → Rise lo hi ps → lo ≤ hi
rise_ends lo hi [] r = r
rise_ends lo hi (p ∷ ps) r = omega (arith, r.0, rise_ends (suc p.num) hi ps r.1)

pub rise_lower : (lo lower hi : ℕ) (ps : List Parked) → lower ≤ lo → Rise lo hi ps → Rise lower hi ps
rise_lower lo lower hi [] le r = omega (arith, r)
rise_lower lo lower hi (p ∷ ps) le r = (omega (arith, r.0), r.1)

pub rise-append : (lo mid hi : ℕ) (ps qs : List Parked) → Rise lo mid ps → Rise mid hi qs → Rise lo hi (ps ++ qs)
rise-append lo mid hi [] qs r s = rise_lower mid lo hi qs r s
rise-append lo mid hi (p ∷ ps) qs r s = (r.0, rise-append (suc p.num) mid hi ps qs r.1 s)

pub rise_rest : (lo hi : ℕ) (ps qs : List Parked) → Rise lo hi (ps ++ qs) → Rise lo hi qs
rise_rest lo hi [] qs r = r
rise_rest lo hi (p ∷ ps) qs r = rise_lower (suc p.num) lo hi qs (omega (arith, r.0)) (rise_rest (suc p.num) hi ps qs r.1)

-- so they are a table by number
pub rise_rises : (lo hi : ℕ) (ps : List Parked) → Rise lo hi ps → rises lo (numbered ps) ≡ true
rise_rises lo hi [] r = refl
rise_rises lo hi (p ∷ ps) r = let here : lo ≤ p.num = r.0 in let rest = rise_rises (suc p.num) hi ps r.1 in grind (arith, nat_tests)

-- THE NUMBERS OF A ROUND

-- a call takes its tier's next number
abbrev grown : OfTiers ℕ → Tier → Tier → ℕ
grown next v t = if same_tier v t then suc (of_tier next t) else of_tier next t

bumped : (next : OfTiers ℕ) (v t : Tier) → of_tier (bump next v) t ≡ grown next v t
bumped next Mid Mid = refl
bumped next Mid Inv = refl
bumped next Mid Pay = refl
bumped next Inv Mid = refl
bumped next Inv Inv = refl
bumped next Inv Pay = refl
bumped next Pay Mid = refl
bumped next Pay Inv = refl
bumped next Pay Pay = refl

same_number : (next : OfTiers ℕ) (v t : Tier) → same_tier v t ≡ true → of_tier next v ≡ of_tier next t
same_number next Mid Mid e = refl
same_number next Mid Inv e = absurd (cc)
same_number next Mid Pay e = absurd (cc)
same_number next Inv Mid e = absurd (cc)
same_number next Inv Inv e = refl
same_number next Inv Pay e = absurd (cc)
same_number next Pay Mid e = absurd (cc)
same_number next Pay Inv e = absurd (cc)
same_number next Pay Pay e = refl

grown_low : (next : OfTiers ℕ) (v t : Tier) → of_tier next t ≤ of_tier (bump next v) t
grown_low next v t = at (same_tier v t) (bumped next v t)
  where
    at : (b : Bool) → of_tier (bump next v) t ≡ (if b then suc (of_tier next t) else of_tier next t) → of_tier next t ≤ of_tier (bump next v) t
    at true e = omega arith
    at false e = omega arith

grown_high : (next : OfTiers ℕ) (v t : Tier) → of_tier (bump next v) t ≤ suc (of_tier next t)
grown_high next v t = at (same_tier v t) (bumped next v t)
  where
    at : (b : Bool) → of_tier (bump next v) t ≡ (if b then suc (of_tier next t) else of_tier next t) → of_tier (bump next v) t ≤ suc (of_tier next t)
    at true e = omega arith
    at false e = omega arith

pub next_low : (next : OfTiers ℕ) (es : List Ending) (t : Tier) → of_tier next t ≤ of_tier (next_after next es) t
next_low next [] t = omega arith
next_low next (Reply text ∷ es) t = next_low next es t
next_low next (Call v stage text ∷ es) t = omega (arith, next_low (bump next v) es t, grown_low next v t)

pub next_high : (next : OfTiers ℕ) (es : List Ending) (t : Tier) → of_tier (next_after next es) t ≤ of_tier next t + length es
next_high next [] t = omega arith
next_high next (Reply text ∷ es) t = omega (arith, next_high next es t)
next_high next (Call v stage text ∷ es) t = omega (arith, next_high (bump next v) es t, grown_high next v t)

pub rise-parks : (next : OfTiers ℕ) (ws : List Want) (es : List Ending) (t : Tier)
    → Rise (of_tier next t) (of_tier (next_after next es) t) (calling t (parks next ws es))
rise-parks next [] es t = next_low next es t
rise-parks next (w ∷ ws) [] t = omega arith
rise-parks next (w ∷ ws) (Reply text ∷ es) t = rise-parks next ws es t
rise-parks next (w ∷ ws) (Call v stage text ∷ es) t = at (same_tier v t) refl (bumped next v t) (rise-parks (bump next v) ws es t)
  where
    here : Parked
    here = record { client = w.client; seq = w.seq; body = w.body; stage = stage; tier = v; num = of_tier next v; text = text }

    rest : List Parked
    rest = calling t (parks (bump next v) ws es)

    last : ℕ
    last = of_tier (next_after (bump next v) es) t

    at : (b : Bool) → same_tier v t ≡ b → of_tier (bump next v) t ≡ (if b then suc (of_tier next t) else of_tier next t)
        → Rise (of_tier (bump next v) t) last rest → Rise (of_tier next t) last (if b then here ∷ rest else rest)
    at true s e r =
        let n : of_tier next v ≡ of_tier next t = same_number next v t s in
        (omega arith, rise_lower (of_tier (bump next v) t) (suc (of_tier next v)) last rest (omega arith) r)
    at false s e r = rise_lower (of_tier (bump next v) t) (of_tier next t) last rest (omega arith) r

pub waiting_rise : (x s : RoundsState) → x ≡ s → IsInRange x → (t : Tier) → rises 1 (numbered (calling t (concat s.queue))) ≡ true
waiting_rise x s same k t = let here : IsInRange s = subst IsInRange same k in rise_rises 1 (of_tier s.numbers t) (calling t (concat s.queue)) (here.rise t)
