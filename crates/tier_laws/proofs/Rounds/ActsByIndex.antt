-- A round's segments with their ends and numbers, by index.
use Rattle.std.proofs.Common.{◌≡◌, ℕ, ◌<◌, ◌≤◌, false, List, [], ◌∷◌, length, refl, sym, ap, ◌∙◌, subst, inl, inr, Option, Some, None, zero, suc, arith}
use Rattle.std.specs.Prelude.{slice_get, ◌⊎◌, ◌==◌}
use Rattle.std.proofs.lemmas.Bool.{eq-eqb, ne_eqb, cond-true, cond-false, cases_eq}
use Rattle.aeg_base.specs.declared.names.Tier.{Tier}
use Rattle.round_model.specs.Lists.{at, put_at, OfTiers, of_tier}
use Rattle.tier_laws.proofs.Lists.ItemsByIndex.{at_here, at_there, tier_cases, of_here, of_there}
use Rattle.round_model.specs.Tables.{Parked, Want, bump, kept_after, kept_by, kept_of, last_of, last_after, next_after, numbers, parked_of, parks}
use Rattle.server_model.specs.Server.{same_tier}
use Rattle.svc_api.specs.declared.action.Ending.{Ending}
use Rattle.svc_api.specs.declared.action.Ending.TheVariants.{Call, Reply}

pub record Act : Type 0 where
  pub want : Want
  pub ending : Ending
  pub num : ℕ

abbrev pub acts : OfTiers ℕ → List Want → List Ending → List Act
acts next [] es = []
acts next (w ∷ ws) [] = []
acts next (w ∷ ws) (Reply text ∷ es) = record { want = w; ending = Reply text; num = 0 } ∷ acts next ws es
acts next (w ∷ ws) (Call t stage text ∷ es) = record { want = w; ending = Call t stage text; num = of_tier next t } ∷ acts (bump next t) ws es

-- the act is a call of t with the number n
abbrev pub NumberedAs : Ending → ℕ → Tier → ℕ → Type 0
NumberedAs (Reply text) k t n = ⊥
NumberedAs (Call v stage text) k t n = (v ≡ t) × (k ≡ n)

abbrev pub Numbered : Act → Tier → ℕ → Type 0
Numbered a t n = NumberedAs a.ending a.num t n

-- bump only raises
pub bump-raises : (next : OfTiers ℕ) (t v : Tier) → of_tier next v ≤ of_tier (bump next t) v
bump-raises next t v = go (tier_cases v t)
  where
    go : (v ≡ t) ⊎ (same_tier v t ≡ false) → of_tier next v ≤ of_tier (bump next t) v
    go (inl e) = omega (arith, ap (of_tier (bump next t)) e, ap (of_tier next) e, of_here next t (suc (of_tier next t)))
    go (inr e) = omega (arith, of_there next t (suc (of_tier next t)) v e)

-- NUMBERS

numbered_at : (a b : Act) (t : Tier) (n : ℕ) → Some a ≡ Some b → Numbered b t n → Numbered a t n
numbered_at a b t n e k = let s : a ≡ b = cc in subst (λ c. Numbered c t n) (sym s) k

bump-here : (next : OfTiers ℕ) (v t : Tier) → v ≡ t → of_tier (bump next v) t ≡ suc (of_tier next v)
bump-here next v t e = subst (λ z. of_tier (bump next v) z ≡ suc (of_tier next v)) e (of_here next v (suc (of_tier next v)))

pub next-raises : (next : OfTiers ℕ) (es : List Ending) (t : Tier) → of_tier next t ≤ of_tier (next_after next es) t
next-raises next [] t = omega arith
next-raises next (Reply text ∷ es) t = next-raises next es t
next-raises next (Call v stage text ∷ es) t = omega (arith, next-raises (bump next v) es t, bump-raises next v t)

pub num-low : (next : OfTiers ℕ) (ws : List Want) (es : List Ending) (i : ℕ) (a : Act) (t : Tier) (n : ℕ)
    → slice_get (acts next ws es) i ≡ Some a → Numbered a t n → of_tier next t ≤ n
num-low next [] es i a t n e k = absurd (cc)
num-low next (w ∷ ws) [] i a t n e k = absurd (cc)
num-low next (w ∷ ws) (Reply text ∷ es) zero a t n e k = absurd (numbered_at (record { want = w; ending = Reply text; num = 0 }) a t n e k)
num-low next (w ∷ ws) (Reply text ∷ es) (suc i) a t n e k = num-low next ws es i a t n e k
num-low next (w ∷ ws) (Call v stage text ∷ es) zero a t n e k =
    let q : (v ≡ t) × (of_tier next v ≡ n) = numbered_at (record { want = w; ending = Call v stage text; num = of_tier next v }) a t n e k in
    let r : of_tier next v ≡ of_tier next t = ap (of_tier next) q.0 in omega (arith, q.1)
num-low next (w ∷ ws) (Call v stage text ∷ es) (suc i) a t n e k = omega (arith, num-low (bump next v) ws es i a t n e k, bump-raises next v t)

pub num-high : (next : OfTiers ℕ) (ws : List Want) (es : List Ending) (i : ℕ) (a : Act) (t : Tier) (n : ℕ)
    → slice_get (acts next ws es) i ≡ Some a → Numbered a t n → n < of_tier (next_after next es) t
num-high next [] es i a t n e k = absurd (cc)
num-high next (w ∷ ws) [] i a t n e k = absurd (cc)
num-high next (w ∷ ws) (Reply text ∷ es) zero a t n e k = absurd (numbered_at (record { want = w; ending = Reply text; num = 0 }) a t n e k)
num-high next (w ∷ ws) (Reply text ∷ es) (suc i) a t n e k = num-high next ws es i a t n e k
num-high next (w ∷ ws) (Call v stage text ∷ es) zero a t n e k =
    let q : (v ≡ t) × (of_tier next v ≡ n) = numbered_at (record { want = w; ending = Call v stage text; num = of_tier next v }) a t n e k in
    let r : of_tier next v ≡ of_tier next t = ap (of_tier next) q.0 in
    omega (arith, q.1, r, bump-here next v t q.0, next-raises (bump next v) es t)
num-high next (w ∷ ws) (Call v stage text ∷ es) (suc i) a t n e k = num-high (bump next v) ws es i a t n e k

-- each number of a tier is given once
pub num-once : (next : OfTiers ℕ) (ws : List Want) (es : List Ending) (i j : ℕ) (a b : Act) (t : Tier) (n : ℕ)
    → slice_get (acts next ws es) i ≡ Some a → slice_get (acts next ws es) j ≡ Some b → Numbered a t n → Numbered b t n → i ≡ j
num-once next [] es i j a b t n e f k l = absurd (cc)
num-once next (w ∷ ws) [] i j a b t n e f k l = absurd (cc)
num-once next (w ∷ ws) (Reply text ∷ es) zero j a b t n e f k l = absurd (numbered_at (record { want = w; ending = Reply text; num = 0 }) a t n e k)
num-once next (w ∷ ws) (Reply text ∷ es) (suc i) zero a b t n e f k l = absurd (numbered_at (record { want = w; ending = Reply text; num = 0 }) b t n f l)
num-once next (w ∷ ws) (Reply text ∷ es) (suc i) (suc j) a b t n e f k l = ap suc (num-once next ws es i j a b t n e f k l)
num-once next (w ∷ ws) (Call v stage text ∷ es) zero zero a b t n e f k l = refl
num-once next (w ∷ ws) (Call v stage text ∷ es) zero (suc j) a b t n e f k l =
    let q : (v ≡ t) × (of_tier next v ≡ n) = numbered_at (record { want = w; ending = Call v stage text; num = of_tier next v }) a t n e k in
    absurd (omega (arith, q.1, bump-here next v t q.0, num-low (bump next v) ws es j b t n f l))
num-once next (w ∷ ws) (Call v stage text ∷ es) (suc i) zero a b t n e f k l =
    let q : (v ≡ t) × (of_tier next v ≡ n) = numbered_at (record { want = w; ending = Call v stage text; num = of_tier next v }) b t n f l in
    absurd (omega (arith, q.1, bump-here next v t q.0, num-low (bump next v) ws es i a t n e k))
num-once next (w ∷ ws) (Call v stage text ∷ es) (suc i) (suc j) a b t n e f k l = ap suc (num-once (bump next v) ws es i j a b t n e f k l)

-- BY INDEX

pub acts_want : (next : OfTiers ℕ) (ws : List Want) (es : List Ending) (i : ℕ) (a : Act)
    → slice_get (acts next ws es) i ≡ Some a → (slice_get ws i ≡ Some a.want) × (slice_get es i ≡ Some a.ending)
    × (at 0 (numbers next es) i ≡ a.num)
acts_want next [] es i a e = absurd (cc)
acts_want next (w ∷ ws) [] i a e = absurd (cc)
acts_want next (w ∷ ws) (Reply text ∷ es) zero a e = let s : record { want = w; ending = Reply text; num = 0 }
    ≡ a = cc in (ap (λ (z : Act). Some z.want) s, ap (λ (z : Act). Some z.ending) s, ap (λ (z : Act). z.num) s)
acts_want next (w ∷ ws) (Reply text ∷ es) (suc i) a e = acts_want next ws es i a e
acts_want next (w ∷ ws) (Call v stage text ∷ es) zero a e = let s : record {
  want = w;
  ending = Call v stage text;
  num = of_tier next v;
} ≡ a = cc in (
  ap (λ (z : Act). Some z.want) s,
  ap (λ (z : Act). Some z.ending) s,
  ap (λ (z : Act). z.num) s,
)
acts_want next (w ∷ ws) (Call v stage text ∷ es) (suc i) a e = acts_want (bump next v) ws es i a e

-- where there is an end for each, each want has its act
pub want_acts : (next : OfTiers ℕ) (ws : List Want) (es : List Ending) (i : ℕ) (w : Want) → length ws ≡ length es
    → slice_get ws i ≡ Some w → (a : Act) × (slice_get (acts next ws es) i ≡ Some a) × (a.want ≡ w)
want_acts next [] es i w l e = absurd (cc)
want_acts next (v ∷ ws) [] i w l e = absurd (omega arith)
want_acts next (v ∷ ws) (Reply text ∷ es) zero w l e = (record { want = v; ending = Reply text; num = 0 }, refl, cc)
want_acts next (v ∷ ws) (Reply text ∷ es) (suc i) w l e = want_acts next ws es i w (omega arith) e
want_acts next (v ∷ ws) (Call t stage text ∷ es) zero w l e = (record { want = v; ending = Call t stage text; num = of_tier next t }, refl, cc)
want_acts next (v ∷ ws) (Call t stage text ∷ es) (suc i) w l e = want_acts (bump next t) ws es i w (omega arith) e

-- CLIENTS

-- c is the client of none
abbrev pub NoneOf : ℕ → List Want → Type 0
NoneOf c [] = Unit {0}
NoneOf c (w ∷ ws) = (w.client ≡ c → ⊥) × NoneOf c ws

abbrev pub Distinct : List Want → Type 0
Distinct [] = Unit {0}
Distinct (w ∷ ws) = NoneOf w.client ws × Distinct ws

pub none_not : (c : ℕ) (ws : List Want) (i : ℕ) (w : Want) → NoneOf c ws → slice_get ws i ≡ Some w → w.client ≡ c → ⊥
none_not c [] i w k e f = absurd (cc)
none_not c (v ∷ ws) zero w k e f = let s : v ≡ w = cc in k.0 (ap (λ (z : Want). z.client) s ∙ f)
none_not c (v ∷ ws) (suc i) w k e f = none_not c ws i w k.1 e f

pub one_client : (ws : List Want) (i j : ℕ) (v w : Want) → Distinct ws → slice_get ws i ≡ Some v → slice_get ws j ≡ Some w → v.client ≡ w.client → i ≡ j
one_client [] i j v w d e f g = absurd (cc)
one_client (x ∷ ws) zero zero v w d e f g = refl
one_client (x ∷ ws) zero (suc j) v w d e f g = let s : x ≡ v = cc in absurd (none_not x.client ws j w d.0 f (sym (ap (λ (z : Want). z.client) s ∙ g)))
one_client (x ∷ ws) (suc i) zero v w d e f g = let s : x ≡ w = cc in absurd (none_not x.client ws i v d.0 e (g ∙ sym (ap (λ (z : Want). z.client) s)))
one_client (x ∷ ws) (suc i) (suc j) v w d e f g = ap suc (one_client ws i j v w d.1 e f g)

pub find_client : (c : ℕ) (ws : List Want) → ((i : ℕ) × (w : Want) × (slice_get ws i ≡ Some w) × (w.client ≡ c)) ⊎ NoneOf c ws
find_client c [] = inr tt
find_client c (w ∷ ws) = go (cases_eq w.client c) (find_client c ws)
  where
    go : (w.client ≡ c) ⊎ (w.client ≡ c → ⊥) → ((i : ℕ) × (w : Want) × (slice_get ws i ≡ Some w) × (w.client ≡ c))
        ⊎ NoneOf c ws → ((i : ℕ) × (v : Want) × (slice_get (w ∷ ws) i ≡ Some v) × (v.client ≡ c)) ⊎ NoneOf c (w ∷ ws)
    go (inl e) r = inl (0, w, refl, e)
    go (inr n) (inl r) = inl (suc r.0, r.1, r.2, r.3)
    go (inr n) (inr r) = inr (n, r)

-- THE TABLES, BY CLIENT

pub last-out : (ws : List Want) (last : List ℕ) (c : ℕ) → NoneOf c ws → last_of (last_after ws last) c ≡ last_of last c
last-out [] last c n = refl
last-out (w ∷ ws) last c n = last-out ws (put_at 0 last w.client w.seq) c n.1 ∙ at_there 0 last w.client w.seq c (λ e. n.0 (sym e))

pub last-in : (ws : List Want) (last : List ℕ) (i : ℕ) (w : Want) → Distinct ws → slice_get ws i ≡ Some w → last_of (last_after ws last) w.client ≡ w.seq
last-in [] last i w d e = absurd (cc)
last-in (v ∷ ws) last zero w d e =
    let s : v ≡ w = cc in
    subst (λ (z : Want). last_of (last_after ws (put_at 0 last v.client v.seq)) z.client ≡ z.seq) s
    (last-out ws (put_at 0 last v.client v.seq) v.client d.0 ∙ at_here 0 last v.client v.seq)
last-in (v ∷ ws) last (suc i) w d e = last-in ws (put_at 0 last v.client v.seq) i w d.1 e

pub kept-out : (ws : List Want) (es : List Ending) (kept : List (Option (List ℕ))) (c : ℕ) → NoneOf c ws → kept_of (kept_after ws es kept) c ≡ kept_of kept c
kept-out [] es kept c n = refl
kept-out (w ∷ ws) [] kept c n = refl
kept-out (w ∷ ws) (e ∷ es) kept c n = kept-out ws es (put_at None kept w.client (kept_by e)) c n.1
    ∙ at_there None kept w.client (kept_by e) c (λ f. n.0 (sym f))

pub kept-in : (next : OfTiers ℕ) (ws : List Want) (es : List Ending) (kept : List (Option (List ℕ))) (i : ℕ) (a : Act)
    → Distinct ws → slice_get (acts next ws es) i ≡ Some a → kept_of (kept_after ws es kept) a.want.client ≡ kept_by a.ending
kept-in next [] es kept i a d e = absurd (cc)
kept-in next (w ∷ ws) [] kept i a d e = absurd (cc)
kept-in next (w ∷ ws) (Reply text ∷ es) kept zero a d e =
    let s : record { want = w; ending = Reply text; num = 0 } ≡ a = cc in
    subst (λ (z : Act). kept_of (kept_after ws es (put_at None kept w.client (Some text))) z.want.client
    ≡ kept_by z.ending) s (kept-out ws es (put_at None kept w.client (Some text)) w.client d.0
    ∙ at_here None kept w.client (Some text))
kept-in next (w ∷ ws) (Reply text ∷ es) kept (suc i) a d e = kept-in next ws es (put_at None kept w.client (Some text)) i a d.1 e
kept-in next (w ∷ ws) (Call t stage text ∷ es) kept zero a d e =
    let s : record { want = w; ending = Call t stage text; num = of_tier next t } ≡ a = cc in
    subst (λ (z : Act). kept_of (kept_after ws es (put_at None kept w.client None)) z.want.client ≡ kept_by z.ending) s
    (kept-out ws es (put_at None kept w.client None) w.client d.0 ∙ at_here None kept w.client None)
kept-in next (w ∷ ws) (Call t stage text ∷ es) kept (suc i) a d e = kept-in (bump next t) ws es (put_at None kept w.client None) i a d.1 e

-- what is parked for the act
abbrev pub parked_by : Want → ℕ → Ending → Option Parked
parked_by w k (Reply text) = None
parked_by w k (Call t stage text) = Some (record { client = w.client; seq = w.seq; body = w.body; stage = stage; tier = t; num = k; text = text })

pub parks-out : (next : OfTiers ℕ) (ws : List Want) (es : List Ending) (c : ℕ) → NoneOf c ws → parked_of c (parks next ws es) ≡ None
parks-out next [] es c n = refl
parks-out next (w ∷ ws) [] c n = refl
parks-out next (w ∷ ws) (Reply text ∷ es) c n = parks-out next ws es c n.1
parks-out next (w ∷ ws) (Call t stage text ∷ es) c n = cond-false (w.client == c) _
    (parked_of c (parks (bump next t) ws es)) (ne_eqb w.client c n.0) ∙ parks-out (bump next t) ws es c n.1

pub parks-in : (next : OfTiers ℕ) (ws : List Want) (es : List Ending) (i : ℕ) (a : Act) → Distinct ws
    → slice_get (acts next ws es) i ≡ Some a → parked_of a.want.client (parks next ws es) ≡ parked_by a.want a.num a.ending
parks-in next [] es i a d e = absurd (cc)
parks-in next (w ∷ ws) [] i a d e = absurd (cc)
parks-in next (w ∷ ws) (Reply text ∷ es) zero a d e =
    let s : record { want = w; ending = Reply text; num = 0 } ≡ a = cc in
    subst (λ (z : Act). parked_of z.want.client (parks next ws es) ≡ parked_by z.want z.num z.ending) s (parks-out next ws es w.client d.0)
parks-in next (w ∷ ws) (Reply text ∷ es) (suc i) a d e = parks-in next ws es i a d.1 e
parks-in next (w ∷ ws) (Call t stage text ∷ es) zero a d e =
    let s : record { want = w; ending = Call t stage text; num = of_tier next t } ≡ a = cc in
    subst (λ (z : Act). parked_of z.want.client (parks next (w ∷ ws) (Call t stage text ∷ es)) ≡ parked_by z.want z.num z.ending) s
    (cond-true (w.client == w.client) _ (parked_of w.client (parks (bump next t) ws es)) (eq-eqb w.client w.client refl))
parks-in next (w ∷ ws) (Call t stage text ∷ es) (suc i) a d e =
    let p = acts_want (bump next t) ws es i a e in
    cond-false (w.client == a.want.client) _ (parked_of a.want.client (parks (bump next t) ws es))
    (ne_eqb w.client a.want.client (λ f. none_not w.client ws i a.want d.0 p.0 (sym f)))
    ∙ parks-in (bump next t) ws es i a d.1 e
