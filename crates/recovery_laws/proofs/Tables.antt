-- Tables by number, and answers: those that answer alike are equal.
use Rattle.std.proofs.Common.{◌≡◌, ℕ, suc, Bool, true, false, ◌==◌, ◌&&◌, List, [], ◌∷◌, refl, sym, ap, ◌∙◌, subst, arith, Option, Some, None, if◌then◌else◌}
use Rattle.std.proofs.lemmas.Bool.{and_parts, eqb-true}
use Rattle.std.proofs.lemmas.Bool.Decides.{nat_tests}
use Rattle.aeg_base.specs.declared.names.Tier.{Tier}
use Rattle.aeg_base.specs.declared.names.Tier.TheVariants.{Mid, Inv, Pay}
use Rattle.log_model.specs.Chosen.{or_else}
use Rattle.round_model.proofs.HeldLaws.{InOrder, in_order, find_holds, answers_holds}
use Rattle.round_model.proofs.NumberedLaws.{risen, find_below}
use Rattle.round_model.specs.Held.{HeldState, answers_of, holds, takes, takes_as, untold}
use Rattle.round_model.specs.Numbered.{rises, find}
use Rattle.round_model.specs.declared.answer.Answer.{Answer}
use Rattle.server_model.proofs.Tiers.{tier_eq}
use Rattle.server_model.specs.Server.{same_tier}

-- TABLES

pub same_table : {A : Type 0} (m n : ℕ) (es ds : List (ℕ × A)) → rises m es ≡ true → rises n ds ≡ true → ((k : ℕ) → find es k ≡ find ds k) → es ≡ ds
same_table m n [] [] r q h = refl
same_table m n [] (d ∷ ds) r q h = absurd (let e = h d.0 in grind (arith, nat_tests, e))
same_table m n (e ∷ es) [] r q h = absurd (let f = h e.0 in grind (arith, nat_tests, f))
same_table {A} m n (e ∷ es) (d ∷ ds) r q h =
    let re = risen m e es r in
    let rd = risen n d ds q in
    let number : e.0 ≡ d.0 = grind (arith, nat_tests, h e.0, h d.0, find_below (suc e.0) es d.0 re.rest, find_below (suc d.0) ds e.0 rd.rest) in
    let item : e.1 ≡ d.1 = grind (arith, nat_tests, h e.0, number) in
    let here : e ≡ d = λ i. (number i, item i) in
    let rest : (k : ℕ) → find es k ≡ find ds k =
    λ k. grind (arith, nat_tests, h k, number, find_below (suc e.0) es k re.rest, find_below (suc d.0) ds k rd.rest) in
    let there : es ≡ ds = same_table (suc e.0) (suc d.0) es ds re.rest rd.rest rest in
    λ i. here i ∷ there i

-- ANSWERS

-- the two are one call
abbrev pub is_call : Tier → ℕ → Tier → ℕ → Bool
is_call t n s k = same_tier t s && (n == k)

pub or_none : {A : Type 0} (o : Option A) → or_else o None ≡ o
or_none None = refl
or_none (Some a) = refl

-- what is found once an answer is set
find_set : (h : HeldState) (t : Tier) (n : ℕ) (a : Answer) (s : Tier) (k : ℕ)
    → find (answers_of (holds h t n a) s) k ≡ (if is_call t n s k then Some a else find (answers_of h s) k)
find_set h t n a s k = go (same_tier t s) refl
  where
    go : (b : Bool) → same_tier t s ≡ b → find (answers_of (holds h t n a) s) k ≡ (if b && (n == k) then Some a else find (answers_of h s) k)
    go true e = subst (λ z. find (answers_of (holds h t n a) z) k ≡ (if n == k then Some a else find (answers_of h z) k)) (tier_eq t s e) (find_holds h t n a k)
    go false e = ap (λ z. find z k) (answers_holds h t s n a e)

-- and once one is taken: of each call the first one stays
pub find_takes : (h : HeldState) (t : Tier) (n code : ℕ) (s : Tier) (k : ℕ)
    → find (answers_of (takes h t n code) s) k ≡ or_else (find (answers_of h s) k) (if is_call t n s k then Some (untold code) else None)
find_takes h t n code s k = go (find (answers_of h t) n) refl
  where
    at_call : (o : Option Answer) → find (answers_of h t) n ≡ o → is_call t n s k ≡ true → find (answers_of h s) k ≡ o
    at_call o e f =
        let p = and_parts (same_tier t s) (n == k) f in
        subst (λ z. find (answers_of h s) z ≡ o) (eqb-true n k p.1) (subst (λ z. find (answers_of h z) n ≡ o) (tier_eq t s p.0) e)

    go : (o : Option Answer) → find (answers_of h t) n ≡ o
        → find (answers_of (takes_as h t n code o) s) k ≡ or_else (find (answers_of h s) k) (if is_call t n s k then Some (untold code) else None)
    go None e = find_set h t n (untold code) s k ∙ by (is_call t n s k) refl
      where
        by : (b : Bool) → is_call t n s k ≡ b
            → (if b then Some (untold code) else find (answers_of h s) k) ≡ or_else (find (answers_of h s) k) (if b then Some (untold code) else None)
        by true f = ap (λ o. or_else o (Some (untold code))) (sym (at_call None e f))
        by false f = sym (or_none (find (answers_of h s) k))
    go (Some a) e = by (is_call t n s k) refl
      where
        by : (b : Bool) → is_call t n s k ≡ b → find (answers_of h s) k ≡ or_else (find (answers_of h s) k) (if b then Some (untold code) else None)
        by true f = let it = at_call (Some a) e f in it ∙ ap (λ o. or_else o (Some (untold code))) (sym it)
        by false f = sym (or_none (find (answers_of h s) k))

-- replicas of one place that find the same answers are equal
pub same_held : (h g : HeldState) → h.faults ≡ g.faults → h.me ≡ g.me → InOrder h → InOrder g
    → ((t : Tier) (k : ℕ) → find (answers_of h t) k ≡ find (answers_of g t) k) → h ≡ g
same_held h g u x o p f =
    let table : (t : Tier) → answers_of h t ≡ answers_of g t = λ t. same_table 0 0 (answers_of h t) (answers_of g t) (in_order h t o) (in_order g t p) (f t) in
    λ i. record { faults = u i; me = x i; answers = record { mid = table Mid i; inv = table Inv i; pay = table Pay i } }
