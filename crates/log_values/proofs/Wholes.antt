-- Reading all of some bytes, and the laws of a grammar.
use Rattle.std.proofs.Common.{◌≡◌, ℕ, List, [], ◌∷◌, Option, Some, None, Result, Ok, Err, sym, ap, ◌∙◌}
use Rattle.std.specs.Prelude.{IfOk, IfSome}
use Rattle.std.proofs.lemmas.List.{append-nil}
use Rattle.std.proofs.lemmas.Option.{same_Some}
use Rattle.aeg_base.specs.declared.memory.Memory.{Memory}
use Rattle.aeg_wire.specs.Fields.{Read}
use Rattle.aeg_wire.proofs.Grammar.{IsBytes, Takes, IsGrammar}
use Rattle.log_values.specs.Reading.{Spells, whole}

whole_by : {A : Type 0} (r : Read A) (x : A) → whole r ≡ Some x → r ≡ Some (x, [])
whole_by None x e = absurd cc
whole_by (Some (y, [])) x e = ap (λ (z : _). Some (z, [])) (same_Some y x e)
whole_by (Some (y, byte ∷ rest)) x e = absurd cc

-- a grammar of all of some bytes
pub record IsEndGrammar {A : Type 0} (fits : A → Type 0) (spelling : A → List ℕ) (read : List ℕ → Read A) : Type 0 where
  pub takes : (bytes : List ℕ) (x : A) (rest : List ℕ) → IsBytes bytes → read bytes ≡ Some (x, rest) → Takes bytes (spelling x) rest × fits x
  pub ends : (x : A) → fits x → read (spelling x) ≡ Some (x, [])

pub from_grammar : {A : Type 0} (fits : A → Type 0) (spelling : A → List ℕ) (read : List ℕ → Read A)
    → IsGrammar fits spelling read → IsEndGrammar fits spelling read
from_grammar fits spelling read g = record {
  takes = g.takes;
  ends = λ x fit. ap (λ (w : List ℕ). read w) (sym (append-nil (spelling x))) ∙ g.again x [] fit;
}

pub whole_is_spelled : {A : Type 0} (fits : A → Type 0) (spelling : A → List ℕ) (read : List ℕ → Read A) → IsEndGrammar fits spelling read
    → (bytes : List ℕ) (x : A) → IsBytes bytes → whole (read bytes) ≡ Some x → Spells fits spelling bytes x
whole_is_spelled fits spelling read g bytes x are e =
    let t = g.takes bytes x [] are (whole_by (read bytes) x e) in
    record { fit = t.1; parts = t.0.parts ∙ append-nil (spelling x) }

pub spelled_is_whole : {A : Type 0} (fits : A → Type 0) (spelling : A → List ℕ) (read : List ℕ → Read A) → IsEndGrammar fits spelling read
    → (bytes : List ℕ) (x : A) → Spells fits spelling bytes x → whole (read bytes) ≡ Some x
spelled_is_whole fits spelling read g bytes x s =
    ap (λ (w : List ℕ). whole (read w)) s.parts ∙ ap (λ (r : Read _). whole r) (g.ends x s.fit)

found_by : {A : Type 0} (fits : A → Type 0) (spelling : A → List ℕ) (bytes : List ℕ) (all found : Option A)
    → ((x : A) → all ≡ Some x → Spells fits spelling bytes x) → found ≡ all
    → IfSome found (λ x. Spells fits spelling bytes x)
found_by fits spelling bytes all None h e = tt
found_by fits spelling bytes all (Some x) h e = h x (sym e)

-- what decoding answers is spelled so
pub is_found : {A : Type 0} (fits : A → Type 0) (spelling : A → List ℕ) (read : List ℕ → Read A) → IsEndGrammar fits spelling read
    → (bytes : List ℕ) (r : Result (Option A) Memory) → IsBytes bytes → IfOk r (λ found. found ≡ whole (read bytes))
    → IfOk r (λ found. IfSome found (λ x. Spells fits spelling bytes x))
is_found fits spelling read g bytes (Ok found) are e = found_by fits spelling bytes (whole (read bytes)) found
    (λ x h. whole_is_spelled fits spelling read g bytes x are h) e
is_found fits spelling read g bytes (Err m) are e = tt

-- what is spelled so is what decoding answers
pub is_only : {A : Type 0} (fits : A → Type 0) (spelling : A → List ℕ) (read : List ℕ → Read A) → IsEndGrammar fits spelling read
    → (bytes : List ℕ) (r : Result (Option A) Memory) → IfOk r (λ found. found ≡ whole (read bytes)) → (x : A)
    → Spells fits spelling bytes x → IfOk r (λ found. found ≡ Some x)
is_only fits spelling read g bytes (Ok found) e x s = e ∙ spelled_is_whole fits spelling read g bytes x s
is_only fits spelling read g bytes (Err m) e x s = tt
