-- A message of one kind, by the field that its body is.
use Rattle.std.proofs.Common.{◌≡◌, ℕ, eqb, true, List, Some, sym, subst, ◌∙◌}
use Rattle.std.proofs.lemmas.Bool.{eqb-true}
use Rattle.aeg_wire.specs.Fields.{Read}
use Rattle.aeg_wire.specs.Formats.{made}
use Rattle.aeg_wire.proofs.Grammar.{IsBytes, Takes, IsGrammar, made_some}

pub kind_case : {A B : Type 0} (key : ℕ) (f : A → B) (fits : A → Type 0) (spelling : A → List ℕ) (read : List ℕ → Read A) → IsGrammar fits spelling read
    → (all_fit : B → Type 0) (text : B → List ℕ) (kinds : B → ℕ) → ((x : A) → fits x → all_fit (f x))
    → ((x : A) → text (f x) ≡ spelling x) → ((x : A) → kinds (f x) ≡ key)
    → (bytes : List ℕ) (kind : ℕ) (v : B) (rest : List ℕ) → IsBytes bytes → eqb kind key ≡ true → made f (read bytes) ≡ Some (v, rest)
    → Takes bytes (text v) rest × (all_fit v × (kinds v ≡ kind))
kind_case key f fits spelling read g all_fit text kinds fit spell of bytes kind v rest are same e =
    let m = made_some f (read bytes) (v, rest) e in
    let t = g.takes bytes m.0.0 m.0.1 are m.1 in
    let told = subst (λ (w : List ℕ). Takes bytes w m.0.1) (sym (spell m.0.0)) t.0 in
    let is : kinds (f m.0.0) ≡ kind = of m.0.0 ∙ sym (eqb-true kind key same) in
    subst (λ (p : _ × List ℕ). Takes bytes (text p.0) p.1 × (all_fit p.0 × (kinds p.0 ≡ kind))) m.2 (told, (fit m.0.0 t.1, is))
