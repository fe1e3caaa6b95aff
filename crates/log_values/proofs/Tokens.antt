-- Passing over a token.
use Rattle.std.proofs.Common.{◌≡◌, ℕ, ◌-◌, ◌≤◌, List, ◌++◌, length, take, Some, None, refl, ap, subst, ◌∙◌, arith}
use Rattle.std.proofs.lemmas.List.{take_at, length-append}
use Rattle.std.proofs.lemmas.Option.{same_Some}
use Rattle.svc_api.specs.declared.outcome.Outcome.{Outcome}
use Rattle.aeg_wire.specs.Fields.{Read}
use Rattle.aeg_wire.specs.Formats.{list_at}
use Rattle.aeg_wire.proofs.Grammar.{IsBytes}
use Rattle.log_values.specs.Outcomes.{outcome, outcome_at, all_pairs_at, all_ends_at, token_at}
use Rattle.log_values.specs.Reading.{left_after, counted, counted_ends}
use Rattle.log_values.proofs.OutcomeGrammar.{outcome_grammar}
use Rattle.log_values.proofs.Passing.{list_length}

counted_by : {A : Type 0} (n : ℕ) (left : List ℕ) (r : Read (List A))
    → ((xs : List A) (rest : List ℕ) → r ≡ Some (xs, rest) → length xs ≡ n) → left_after r ≡ Some left → counted r ≡ Some (n, left)
counted_by n left None h e = absurd cc
counted_by n left (Some x) h e = rw (h x.0 x.1 refl, same_Some x.1 left e) refl

-- so many fields are counted
pub list_counted : {A : Type 0} (one : List ℕ → Read A) (n : ℕ) (bytes left : List ℕ) → left_after (list_at one n bytes)
    ≡ Some left → counted (list_at one n bytes) ≡ Some (n, left)
list_counted one n bytes left e = counted_by n left (list_at one n bytes) (λ xs rest h. list_length one n bytes xs rest h) e

pub no_pairs : (bytes : List ℕ) → all_pairs_at bytes ≡ None → outcome_at bytes ≡ None
unfolding outcome_at
no_pairs bytes e = rw e refl

no_ends_by : (bytes middle : List ℕ) (r : Read (List _)) → all_pairs_at bytes ≡ r → left_after r ≡ Some middle
    → all_ends_at middle ≡ None → outcome_at bytes ≡ None
unfolding outcome_at
no_ends_by bytes middle None e h n = absurd cc
no_ends_by bytes middle (Some x) e h n =
    let there : all_ends_at x.1 ≡ None = ap all_ends_at (same_Some x.1 middle h) ∙ n in
    rw (e, there) refl

pub no_ends : (bytes middle : List ℕ) → left_after (all_pairs_at bytes) ≡ Some middle → all_ends_at middle ≡ None → outcome_at bytes ≡ None
no_ends bytes middle h n = no_ends_by bytes middle (all_pairs_at bytes) refl h n

counts_by : (bytes middle : List ℕ) (n : ℕ) (left : List ℕ) (r : Read (List _)) (s : Read (List _))
    → all_pairs_at bytes ≡ r → left_after r ≡ Some middle → all_ends_at middle ≡ s → counted s ≡ Some (n, left)
    → counted_ends (outcome_at bytes) ≡ Some (n, left)
unfolding outcome_at
counts_by bytes middle n left None s e h f k = absurd cc
counts_by bytes middle n left (Some x) None e h f k = absurd cc
counts_by bytes middle n left (Some x) (Some y) e h f k =
    let there : all_ends_at x.1 ≡ Some y = ap all_ends_at (same_Some x.1 middle h) ∙ f in
    rw (e, there) k

pub counts : (bytes middle : List ℕ) (n : ℕ) (left : List ℕ) → left_after (all_pairs_at bytes) ≡ Some middle
    → counted (all_ends_at middle) ≡ Some (n, left) → counted_ends (outcome_at bytes) ≡ Some (n, left)
counts bytes middle n left h k = counts_by bytes middle n left (all_pairs_at bytes) (all_ends_at middle) refl h refl k

pub no_token : (bytes : List ℕ) → outcome_at bytes ≡ None → token_at bytes ≡ None
unfolding token_at
no_token bytes e = rw e refl

front_of : (a b whole : List ℕ) → whole ≡ a ++ b → take (length whole - length b) whole ≡ a
front_of a b whole e =
    let n : length whole - length b ≡ length a = omega (arith, ap length e, length-append a b) in
    ap (λ (k : ℕ). take k whole) n ∙ ap (λ (w : List ℕ). take (length a) w) e ∙ take_at a b (length a) refl

abbrev TokenIs : List ℕ → ℕ → List ℕ → Type 0
TokenIs start n left = (length left ≤ length start) × (token_at start ≡ Some ((take (length start - length left) start, n), left))

token_by : (start : List ℕ) (n : ℕ) (left : List ℕ) (r : Read Outcome) → IsBytes start → outcome_at start ≡ r
    → counted_ends r ≡ Some (n, left) → TokenIs start n left
unfolding token_at
token_by start n left None are e h = absurd cc
token_by start n left (Some x) are e h =
    let t = outcome_grammar.takes start x.0 x.1 are e in
    let front = front_of (outcome x.0) x.1 start t.0.parts in
    let here : TokenIs start (length x.0.ends) x.1 = (omega (arith, ap length t.0.parts, length-append (outcome x.0) x.1), rw (e, front) refl) in
    subst (λ (p : ℕ × List ℕ). TokenIs start p.0 p.1) (same_Some (length x.0.ends, x.1) (n, left) h) here

pub token_is : (start : List ℕ) (n : ℕ) (left : List ℕ) → IsBytes start → counted_ends (outcome_at start) ≡ Some (n, left) → TokenIs start n left
token_is start n left are h = token_by start n left (outcome_at start) are refl h
