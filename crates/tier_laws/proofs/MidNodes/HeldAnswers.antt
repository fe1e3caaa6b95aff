-- The answers that a node holds, against the Held facts that it wrote.
use Rattle.std.proofs.Common.{◌≡◌, ℕ, Bool, true, false, cond, List, [], ◌∷◌, ◌++◌, refl, sym, ap, ◌∙◌, subst, inl, inr, Option, Some, None, zero, suc}
use Rattle.std.specs.Prelude.{◌⊎◌, ◌==◌, ◌&&◌, slice_set, replicate}
use Rattle.std.proofs.lemmas.Bool.{and_parts, eqb-true}
use Rattle.aeg_base.specs.declared.names.Tier.{Tier}
use Rattle.aeg_base.specs.declared.names.Tier.TheVariants.{Mid as MidTier, Inv, Pay}
use Rattle.log_model.specs.Chosen.{or_else}
use Rattle.log_model.specs.Log.{has}
use Rattle.log_values.specs.declared.fact.Fact.{Fact}
use Rattle.log_values.specs.declared.fact.Fact.TheVariants.{Promised, Accepted, Learned, Held}
use Rattle.round_model.proofs.HeldLaws.{InOrder, in_order_takes, in_order_hears, find_holds, answers_holds}
use Rattle.round_model.specs.Held.{HeldState, answers_of, has_told, heard, hears, held_code, holds, is_noted, none_held, takes, takes_as, told_by, untold}
use Rattle.round_model.specs.Lists.{and_then, is_some}
use Rattle.round_model.specs.Numbered.{find}
use Rattle.round_model.specs.declared.answer.Answer.{Answer}
use Rattle.run_model.specs.World.{Config}
use Rattle.server_model.specs.Server.{same_tier}
use Rattle.tier_laws.proofs.MidNodes.CodesOfFacts.{Code, code_of, codes_in}
use Rattle.tier_laws.proofs.Lists.ItemsByIndex.{tier_cases, tier_eq, tier_same}
use Rattle.tier_laws.proofs.Events.GrowingPast.{Grows, HeldOk, Past, grows-refl, holds as wrote}
use Rattle.tier_model.specs.Moves.{held_in}

abbrev code_in : Option Answer → Option ℕ
code_in o = and_then o (λ a. Some a.code)

abbrev is_call : Tier → ℕ → Tier → ℕ → Bool
is_call t n s k = same_tier t s && (n == k)

-- the code, where the call is this one
abbrev pub code_at_call : Tier → ℕ → ℕ → Tier → ℕ → Option ℕ
code_at_call t n code s k = cond (is_call t n s k) (Some code) None

same_call : (t : Tier) (n : ℕ) (s : Tier) (k : ℕ) → is_call t n s k ≡ true → (t ≡ s) × (n ≡ k)
same_call t n s k e = let p = and_parts (same_tier t s) (n == k) e in (tier_eq t s p.0, eqb-true n k p.1)

or_none : {A : Type 0} (o : Option A) → or_else o None ≡ o
or_none None = refl
or_none (Some a) = refl

-- ONE ANSWER IS SET

found : (H : HeldState) (t : Tier) (n : ℕ) (a : Answer) (s : Tier) (k : ℕ) → find (answers_of (holds H t n a) s) k
    ≡ cond (is_call t n s k) (Some a) (find (answers_of H s) k)
found H t n a s k = go (tier_cases t s)
  where
    go : (t ≡ s) ⊎ (same_tier t s ≡ false) → find (answers_of (holds H t n a) s) k ≡ cond (is_call t n s k) (Some a) (find (answers_of H s) k)
    go (inl e) = subst (λ z. find (answers_of (holds H t n a) z) k ≡ cond (is_call t n z k) (Some a) (find (answers_of H z) k)) e
        (find_holds H t n a k ∙ ap (λ b. cond (b && (n == k)) (Some a) (find (answers_of H t) k)) (sym (tier_same t)))
    go (inr e) = ap (λ z. find z k) (answers_holds H t s n a e) ∙ ap (λ b. cond (b && (n == k)) (Some a) (find (answers_of H s) k)) (sym e)

set_code : (H : HeldState) (t : Tier) (n : ℕ) (a : Answer) (code : ℕ) → or_else (held_code H t n) (Some code) ≡ Some a.code → (s : Tier) (k : ℕ)
    → held_code (holds H t n a) s k ≡ or_else (held_code H s k) (code_at_call t n code s k)
set_code H t n a code e s k = ap code_in (found H t n a s k) ∙ go (is_call t n s k) refl
  where
    go : (b : Bool) → is_call t n s k ≡ b → code_in (cond b (Some a) (find (answers_of H s) k)) ≡ or_else (held_code H s k) (cond b (Some code) None)
    go true f = let p = same_call t n s k f in subst (λ z. Some a.code ≡ or_else (held_code H s z) (Some code)) p.1
        (subst (λ z. Some a.code ≡ or_else (held_code H z n) (Some code)) p.0 (sym e))
    go false f = sym (or_none (held_code H s k))

-- ANSWERS ARE TAKEN

pub takes_code : (H : HeldState) (t : Tier) (n code : ℕ) (s : Tier) (k : ℕ) → held_code (takes H t n code) s k
    ≡ or_else (held_code H s k) (code_at_call t n code s k)
takes_code H t n code s k = go (find (answers_of H t) n) refl
  where
    go : (o : Option Answer) → find (answers_of H t) n ≡ o → held_code (takes_as H t n code o) s k ≡ or_else (held_code H s k) (code_at_call t n code s k)
    go None e = set_code H t n (untold code) code (ap (λ z. or_else (code_in z) (Some code)) e) s k
    go (Some a) e = stays (is_call t n s k) refl
      where
        stays : (b : Bool) → is_call t n s k ≡ b → held_code H s k ≡ or_else (held_code H s k) (cond b (Some code) None)
        stays true f =
            let p = same_call t n s k f in
            let h : held_code H s k ≡ Some a.code = subst (λ z. held_code H s z ≡ Some a.code) p.1
            (subst (λ z. held_code H z n ≡ Some a.code) p.0 (ap code_in e)) in
            h ∙ ap (λ z. or_else z (Some code)) (sym h)
        stays false f = sym (or_none (held_code H s k))

no_flag : (n y : ℕ) → has (replicate n false) y ≡ true → ⊥
no_flag zero y e = cc
no_flag (suc n) zero e = cc
no_flag (suc n) (suc y) e = no_flag n y e

pub takes_noted : (H : HeldState) (t : Tier) (n code y : ℕ) (s : Tier) (k : ℕ) → is_noted (takes H t n code) y s k ≡ true → is_noted H y s k ≡ true
takes_noted H t n code y s k = go (find (answers_of H t) n)
  where
    go : (o : Option Answer) → is_noted (takes_as H t n code o) y s k ≡ true → is_noted H y s k ≡ true
    go None e = by (is_call t n s k) (sym (ap (λ z. has_told z y) (found H t n (untold code) s k)) ∙ e)
      where
        by : (b : Bool) → has_told (cond b (Some (untold code)) (find (answers_of H s) k)) y ≡ true → is_noted H y s k ≡ true
        by true f = absurd (no_flag 5 y f)
        by false f = f
    go (Some a) e = e

takes_size : (H : HeldState) (t : Tier) (n code : ℕ) → ((takes H t n code).faults ≡ H.faults) × ((takes H t n code).me ≡ H.me)
takes_size H t n code = go (find (answers_of H t) n)
  where
    go : (o : Option Answer) → ((takes_as H t n code o).faults ≡ H.faults) × ((takes_as H t n code o).me ≡ H.me)
    go None = (refl, refl)
    go (Some a) = (refl, refl)

-- OTHERS TELL THAT THEY HOLD ONE

pub hears_code : (H : HeldState) (y : ℕ) (t : Tier) (n code : ℕ) (s : Tier) (k : ℕ) → held_code (hears H y t n code) s k
    ≡ or_else (held_code H s k) (code_at_call t n code s k)
hears_code H y t n code s k = go (find (answers_of H t) n) refl
  where
    go : (o : Option Answer) → find (answers_of H t) n ≡ o → held_code (holds H t n (heard o code y)) s k
        ≡ or_else (held_code H s k) (code_at_call t n code s k)
    go None e = set_code H t n (heard None code y) code (ap (λ z. or_else (code_in z) (Some code)) e) s k
    go (Some a) e = set_code H t n (heard (Some a) code y) code (ap (λ z. or_else (code_in z) (Some code)) e) s k

set_flag : (flags : List Bool) (y z : ℕ) → has (slice_set flags y true) z ≡ true → (z ≡ y) ⊎ (has flags z ≡ true)
set_flag [] y z e = inr e
set_flag (b ∷ bs) zero zero e = inl refl
set_flag (b ∷ bs) zero (suc z) e = inr e
set_flag (b ∷ bs) (suc y) zero e = inr e
set_flag (b ∷ bs) (suc y) (suc z) e = go (set_flag bs y z e)
  where
    go : (z ≡ y) ⊎ (has bs z ≡ true) → (suc z ≡ suc y) ⊎ (has bs z ≡ true)
    go (inl f) = inl (ap suc f)
    go (inr f) = inr f

-- it was told before, or it's what y tells now
pub hears_noted : (H : HeldState) (y : ℕ) (t : Tier) (n code z : ℕ) (s : Tier) (k : ℕ)
    → is_noted (hears H y t n code) z s k ≡ true → (is_noted H z s k ≡ true) ⊎ ((z ≡ y) × (t ≡ s) × (n ≡ k))
hears_noted H y t n code z s k = go (find (answers_of H t) n) refl
  where
    go : (o : Option Answer) → find (answers_of H t) n ≡ o → is_noted (holds H t n (heard o code y)) z s k ≡ true
        → (is_noted H z s k ≡ true) ⊎ ((z ≡ y) × (t ≡ s) × (n ≡ k))
    go o e f = by (is_call t n s k) refl (sym (ap (λ q. has_told q z) (found H t n (heard o code y) s k)) ∙ f)
      where
        here : (t ≡ s) × (n ≡ k) → (q : Option Answer) → find (answers_of H t) n ≡ q
            → has (heard q code y).noted z ≡ true → (is_noted H z s k ≡ true) ⊎ ((z ≡ y) × (t ≡ s) × (n ≡ k))
        here p None g h = told (set_flag (replicate 5 false) y z h)
          where
            told : (z ≡ y) ⊎ (has (replicate 5 false) z ≡ true) → (is_noted H z s k ≡ true) ⊎ ((z ≡ y) × (t ≡ s) × (n ≡ k))
            told (inl i) = inr (i, p.0, p.1)
            told (inr i) = absurd (no_flag 5 z i)
        here p (Some a) g h = told (set_flag a.noted y z h)
          where
            told : (z ≡ y) ⊎ (has a.noted z ≡ true) → (is_noted H z s k ≡ true) ⊎ ((z ≡ y) × (t ≡ s) × (n ≡ k))
            told (inl i) = inr (i, p.0, p.1)
            told (inr i) = inl (subst (λ q. is_noted H z s q ≡ true) p.1 (subst (λ q. is_noted H z q n ≡ true) p.0 (ap (λ q. has_told q z) g ∙ i)))

        by : (b : Bool) → is_call t n s k ≡ b → has_told (cond b (Some (heard o code y)) (find (answers_of H s) k)) z
            ≡ true → (is_noted H z s k ≡ true) ⊎ ((z ≡ y) × (t ≡ s) × (n ≡ k))
        by true g h = here (same_call t n s k g) o e h
        by false g h = inl h

-- THE CODES OF A LIST

pub code_of-end : (cs : List Code) (t : Tier) (n code : ℕ) (s : Tier) (k : ℕ)
    → code_of (cs ++ record { tier = t; num = n; code = code } ∷ []) s k ≡ or_else (code_of cs s k) (code_at_call t n code s k)
code_of-end [] t n code s k = refl
code_of-end (c ∷ cs) t n code s k = go (is_call c.tier c.num s k) (code_of-end cs t n code s k)
  where
    go : (b : Bool) → code_of (cs ++ record { tier = t; num = n; code = code } ∷ []) s k ≡ or_else (code_of cs s k) (code_at_call t n code s k)
        → cond b (Some c.code) (code_of (cs ++ record { tier = t; num = n; code = code } ∷ []) s k)
        ≡ or_else (cond b (Some c.code) (code_of cs s k)) (code_at_call t n code s k)
    go true e = refl
    go false e = e

pub held_codes : (u x : ℕ) (F : List Fact) (s : Tier) (k : ℕ) → held_code (held_in u x F) s k ≡ code_of (codes_in F) s k
held_codes u x [] MidTier k = refl
held_codes u x [] Inv k = refl
held_codes u x [] Pay k = refl
held_codes u x (Promised b ∷ fs) s k = held_codes u x fs s k
held_codes u x (Accepted p b v ∷ fs) s k = held_codes u x fs s k
held_codes u x (Learned p v ∷ fs) s k = held_codes u x fs s k
held_codes u x (Held t n code ∷ fs) s k =
    takes_code (held_in u x fs) t n code s k ∙ ap (λ z. or_else z (code_at_call t n code s k)) (held_codes u x fs s k)
    ∙ sym (code_of-end (codes_in fs) t n code s k)

held_size : (u x : ℕ) (F : List Fact) → ((held_in u x F).faults ≡ u) × ((held_in u x F).me ≡ x)
held_size u x [] = (refl, refl)
held_size u x (Promised b ∷ fs) = held_size u x fs
held_size u x (Accepted p b v ∷ fs) = held_size u x fs
held_size u x (Learned p v ∷ fs) = held_size u x fs
held_size u x (Held t n code ∷ fs) = let a = takes_size (held_in u x fs) t n code in let b = held_size u x fs in (a.0 ∙ b.0, a.1 ∙ b.1)

held_in_order : (u x : ℕ) (F : List Fact) → InOrder (held_in u x F)
held_in_order u x [] = record { mid = refl; inv = refl; pay = refl }
held_in_order u x (Promised b ∷ fs) = held_in_order u x fs
held_in_order u x (Accepted p b v ∷ fs) = held_in_order u x fs
held_in_order u x (Learned p v ∷ fs) = held_in_order u x fs
held_in_order u x (Held t n code ∷ fs) = in_order_takes (held_in u x fs) t n code (held_in_order u x fs)

none_noted : (u x : ℕ) (F : List Fact) (y : ℕ) (s : Tier) (k : ℕ) → is_noted (held_in u x F) y s k ≡ true → ⊥
none_noted u x [] y MidTier k e = cc
none_noted u x [] y Inv k e = cc
none_noted u x [] y Pay k e = cc
none_noted u x (Promised b ∷ fs) y s k e = none_noted u x fs y s k e
none_noted u x (Accepted p b v ∷ fs) y s k e = none_noted u x fs y s k e
none_noted u x (Learned p v ∷ fs) y s k e = none_noted u x fs y s k e
none_noted u x (Held t n code ∷ fs) y s k e = none_noted u x fs y s k (takes_noted (held_in u x fs) t n code y s k e)

-- WHAT A NODE HOLDS COMES FROM WHAT IT WROTE

-- after a restart
pub restored_held : {B : Type 0} (c : Config B) (P : Past B) (x : ℕ) (F : List Fact) → codes_in F ≡ P.codes MidTier x → HeldOk c P x (held_in c.u x F)
restored_held c P x F e = record {
  faults = (held_size c.u x F).0;
  me = (held_size c.u x F).1;
  in_order = held_in_order c.u x F;
  codes = λ t n. held_codes c.u x F t n ∙ ap (λ z. code_of z t n) e;
  noted = λ y t n f. absurd (none_noted c.u x F y t n f);
}

more_code : {B : Type 0} (c : Config B) (P Q : Past B) (x : ℕ) (H : HeldState) (t : Tier) (n code : ℕ) → HeldOk c P x H
    → Q.codes MidTier x ≡ P.codes MidTier x ++ record { tier = t; num = n; code = code } ∷ []
    → (s : Tier) (k : ℕ) → or_else (held_code H s k) (code_at_call t n code s k) ≡ code_of (Q.codes MidTier x) s k
more_code c P Q x H t n code o e s k = ap (λ z. or_else z (code_at_call t n code s k)) (o.codes s k)
    ∙ sym (code_of-end (P.codes MidTier x) t n code s k) ∙ ap (λ z. code_of z s k) (sym e)

-- an answer that is written down is held
pub taken_held : {B : Type 0} (c : Config B) (P Q : Past B) (x : ℕ) (H : HeldState) (t : Tier) (n code : ℕ) → HeldOk c P x H → Grows P Q
    → Q.codes MidTier x ≡ P.codes MidTier x ++ record { tier = t; num = n; code = code } ∷ [] → HeldOk c Q x (takes H t n code)
taken_held c P Q x H t n code o g e = record {
  faults = (takes_size H t n code).0 ∙ o.faults;
  me = (takes_size H t n code).1 ∙ o.me;
  in_order = in_order_takes H t n code o.in_order;
  codes = λ s k. takes_code H t n code s k ∙ more_code c P Q x H t n code o e s k;
  noted = λ y s k f. g.held y s k (o.noted y s k (takes_noted H t n code y s k f));
}

heard_noted : {B : Type 0} (c : Config B) (P Q : Past B) (x : ℕ) (H : HeldState) (y : ℕ) (t : Tier) (n code : ℕ)
    → HeldOk c P x H → Grows P Q → wrote P t n y ≡ true
    → (z : ℕ) (s : Tier) (k : ℕ) → is_noted (hears H y t n code) z s k ≡ true → wrote Q s k z ≡ true
heard_noted c P Q x H y t n code o g w z s k f = by (hears_noted H y t n code z s k f)
  where
    by : (is_noted H z s k ≡ true) ⊎ ((z ≡ y) × (t ≡ s) × (n ≡ k)) → wrote Q s k z ≡ true
    by (inl h) = g.held z s k (o.noted z s k h)
    by (inr h) = subst (λ q. wrote Q s k q ≡ true) (sym h.0) (subst (λ q. wrote Q s q y ≡ true) h.2 (subst (λ q. wrote Q q n y ≡ true) h.1 (g.held y t n w)))

-- so is one that another node told
pub told_held : {B : Type 0} (c : Config B) (P Q : Past B) (x : ℕ) (H : HeldState) (y : ℕ) (t : Tier) (n code : ℕ)
    → HeldOk c P x H → Grows P Q → wrote P t n y ≡ true
    → Q.codes MidTier x ≡ P.codes MidTier x ++ record { tier = t; num = n; code = code } ∷ [] → HeldOk c Q x (hears H y t n code)
told_held c P Q x H y t n code o g w e = record {
  faults = o.faults;
  me = o.me;
  in_order = in_order_hears H y t n code o.in_order;
  codes = λ s k. hears_code H y t n code s k ∙ more_code c P Q x H t n code o e s k;
  noted = heard_noted c P Q x H y t n code o g w;
}

-- where it was held already, only who told it is noted
pub noted_held : {B : Type 0} (c : Config B) (P : Past B) (x : ℕ) (H : HeldState) (y : ℕ) (t : Tier) (n code : ℕ)
    → HeldOk c P x H → wrote P t n y ≡ true → is_some (held_code H t n) ≡ true
    → HeldOk c P x (hears H y t n code)
noted_held c P x H y t n code o w some = record {
  faults = o.faults;
  me = o.me;
  in_order = in_order_hears H y t n code o.in_order;
  codes = λ s k. hears_code H y t n code s k ∙ stays s k (is_call t n s k) refl ∙ o.codes s k;
  noted = heard_noted c P P x H y t n code o (grows-refl P) w;
}
  where
    is_first : (o : Option ℕ) → is_some o ≡ true → or_else o (Some code) ≡ o
    is_first None e = absurd (cc)
    is_first (Some a) e = refl

    stays : (s : Tier) (k : ℕ) (b : Bool) → is_call t n s k ≡ b → or_else (held_code H s k) (cond b (Some code) None) ≡ held_code H s k
    stays s k true f =
        let p = same_call t n s k f in
        is_first (held_code H s k) (subst (λ z. is_some (held_code H s z) ≡ true) p.1 (subst (λ z. is_some (held_code H z n) ≡ true) p.0 some))
    stays s k false f = or_none (held_code H s k)
