-- The first line of a text, and the lines behind it.
use Rattle.std.proofs.Common.{◌≡◌, ℕ, List, [], ◌∷◌, length, Option, None, Some, ap, sym, ◌∙◌, cond, MatchOption, IfNone}
use Rattle.std.specs.Borrow.{Bor}
use Rattle.server_model.specs.Words.{parts_of}
use Rattle.server_model.specs.Single.{lines_of, ended_lines}
use Rattle.server_model.proofs.WordLaws.{first_of, other_than}
use Rattle.server_model.specs.Rests.{lines_left}

-- only the last line may be missing
ended_lines-cons : (x : List ℕ) (xs : List (List ℕ)) (y : List ℕ) (ys : List (List ℕ)) → xs ≡ y ∷ ys → ended_lines (x ∷ xs) ≡ x ∷ ended_lines xs
ended_lines-cons x xs y ys e = ap (λ zs. ended_lines (x ∷ zs)) e ∙ ap (λ zs. x ∷ ended_lines zs) (sym e)

pub lines_of-first : (text first : List ℕ) (rest : Option (Bor (List ℕ))) → (length text ≡ 0 → ⊥)
    → MatchOption rest (parts_of 10 text ≡ first ∷ []) (λ r. parts_of 10 text ≡ first ∷ parts_of 10 r.now)
    → IfNone rest (first ≡ text) → lines_of text ≡ first ∷ lines_left rest
lines_of-first text first None some parts whole =
    ap ended_lines parts ∙ ap (λ b. cond b [] (first ∷ [])) (other_than (length first) 0 (λ e. some (sym (ap length whole) ∙ e)))
lines_of-first text first (Some r) some parts whole =
    let f = first_of 10 r.now in
    ap ended_lines parts ∙ ended_lines-cons first (parts_of 10 r.now) f.0 f.1.0 f.1.1
