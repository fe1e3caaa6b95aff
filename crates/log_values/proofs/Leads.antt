-- A value behind a lead byte that tells its case.
use Rattle.std.proofs.Common.{◌≡◌, ℕ, Bool, true, false, cond, eqb, ◌⊎◌, inl, inr, List, [], ◌∷◌, Some, refl, sym, subst}
use Rattle.std.proofs.lemmas.Bool.{eqb-true}
use Rattle.aeg_wire.specs.Fields.{Read}
use Rattle.aeg_wire.specs.Formats.{made}
use Rattle.aeg_wire.proofs.Grammar.{Takes, Takes-then, IsGrammar, made_some}

-- which way a test went
pub chosen : {A : Type 0} (b : Bool) (x y z : A) → cond b x y ≡ z → ((b ≡ true) × (x ≡ z)) ⊎ ((b ≡ false) × (y ≡ z))
chosen true x y z e = inl (refl, e)
chosen false x y z e = inr (refl, e)

-- a case of a value: its lead byte, and what its field spells
pub case_of : {A B : Type 0} (key : ℕ) (f : A → B) (fits : A → Type 0) (spelling : A → List ℕ) (read : List ℕ → Read A) → IsGrammar fits spelling read
    → (all_fit : B → Type 0) (text : B → List ℕ) → ((x : A) → fits x → all_fit (f x)) → ((x : A) → text (f x) ≡ key ∷ spelling x)
    → (bytes : List ℕ) (lead : ℕ) (after : List ℕ) (v : B) (rest : List ℕ) → Takes bytes (lead ∷ []) after
    → eqb lead key ≡ true → made f (read after) ≡ Some (v, rest)
    → Takes bytes (text v) rest × all_fit v
case_of key f fits spelling read g all_fit text fit spell bytes lead after v rest first same e =
    let m = made_some f (read after) (v, rest) e in
    let t = g.takes after m.0.0 m.0.1 first.rest_fits m.1 in
    let all = Takes-then bytes (lead ∷ []) after (spelling m.0.0) m.0.1 first t.0 in
    let led = subst (λ (k : ℕ). Takes bytes (k ∷ spelling m.0.0) m.0.1) (eqb-true lead key same) all in
    let told = subst (λ (w : List ℕ). Takes bytes w m.0.1) (sym (spell m.0.0)) led in
    subst (λ (p : _ × List ℕ). Takes bytes (text p.0) p.1 × all_fit p.0) m.2 (told, fit m.0.0 t.1)
