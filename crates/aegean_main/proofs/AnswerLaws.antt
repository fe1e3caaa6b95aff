-- The answer to an input, case by case.
use Rattle.std.proofs.Common.{◌≡◌, ℕ, ◌+◌, ◌<◌, ◌≤◌, List, [], ◌∷◌, Ok, refl, sym, ap, ◌∙◌, length, nat_lt, cond}
use Rattle.std.proofs.lemmas.Bool.{lt-ltb, le-ltb}
use Rattle.aeg_base.specs.declared.limits.TheConstants.{INPUT_BYTES, INPUT_LINES}
use Rattle.server_model.specs.Backends.{Amounts}
use Rattle.server_model.specs.Server.{Server, Step, Refused, Goes, opening_server, step}
use Rattle.server_model.specs.Single.{booking_meaning, Line, Skips, Bad, Steps, line_of, lines_of, Judged, Reads, Fails}
use Rattle.server_model.specs.Single.{judge, judged, judgement, Outcome, goes_on_with, then_told, told_line, run_from}
use Rattle.server_model.specs.declared.history.Numbered.{Numbered}
use Rattle.aegean_main.specs.Answer.{refused_with, answer_run, answer_judged, answer_of}
use Rattle.aegean_main.specs.Counting.{steps_in}
use Rattle.aegean_main.specs.Running.{line_run, run_lines}
use Rattle.aegean_main.specs.declared.status.LimitKind.TheVariants as limits
use Rattle.aegean_main.specs.declared.status.Status.TheVariants.{Script, Limit}

-- more lines than the limit
pub answer_of-lines : (input : List ℕ) → length input ≤ INPUT_BYTES → INPUT_LINES < length (lines_of input)
    → answer_of input ≡ refused_with (Limit limits.Lines)
answer_of-lines input bytes lines =
    ap (λ b. cond b (refused_with (Limit limits.Bytes))
    (cond (nat_lt INPUT_LINES (length (lines_of input))) (refused_with (Limit limits.Lines))
    (answer_judged (judgement input)))) (le-ltb INPUT_BYTES (length input) bytes)
    ∙ ap (λ b. cond b (refused_with (Limit limits.Lines)) (answer_judged (judgement input))) (lt-ltb INPUT_LINES (length (lines_of input)) lines)

-- an input within the limits
pub answer_of-judged : (input : List ℕ) → length input ≤ INPUT_BYTES → length (lines_of input) ≤ INPUT_LINES → answer_of input ≡ answer_judged (judgement input)
answer_of-judged input bytes lines =
    ap (λ b. cond b (refused_with (Limit limits.Bytes))
    (cond (nat_lt INPUT_LINES (length (lines_of input))) (refused_with (Limit limits.Lines))
    (answer_judged (judgement input)))) (le-ltb INPUT_BYTES (length input) bytes)
    ∙ ap (λ b. cond b (refused_with (Limit limits.Lines)) (answer_judged (judgement input))) (le-ltb INPUT_LINES (length (lines_of input)) lines)

-- more bytes than the limit
pub answer_of-bytes : (input : List ℕ) → INPUT_BYTES < length input → answer_of input ≡ refused_with (Limit limits.Bytes)
answer_of-bytes input bytes =
    ap (λ b. cond b (refused_with (Limit limits.Bytes))
    (cond (nat_lt INPUT_LINES (length (lines_of input))) (refused_with (Limit limits.Lines))
    (answer_judged (judgement input)))) (lt-ltb INPUT_BYTES (length input) bytes)

pub answer_of-bad : (input : List ℕ) (line row : ℕ) → length input ≤ INPUT_BYTES → length (lines_of input) ≤ INPUT_LINES
    → judgement input ≡ Fails line row → answer_of input ≡ refused_with (Script line row)
answer_of-bad input line row bytes lines e = answer_of-judged input bytes lines ∙ ap answer_judged e

-- ONE STEP AFTER ANOTHER

same_rest : (st : Step Amounts) (number : ℕ) (f g : Server Amounts → Outcome) → ((s : Server Amounts) → f s ≡ g s)
    → goes_on_with st number f ≡ goes_on_with st number g
same_rest (Refused row) number f g e = refl
same_rest (Goes new told) number f g e = ap (then_told (told_line told)) (e new)

one_line : (x : Line) (number : ℕ) (rest : Judged) (more : Server Amounts → Outcome) (steps : List Numbered) (s : Server Amounts)
    → ((zs : List Numbered) (t : Server Amounts) → rest ≡ Reads zs → more t ≡ run_from booking_meaning zs t)
    → judged number x rest ≡ Reads steps → line_run x number more s ≡ run_from booking_meaning steps s
one_line Skips number rest more steps s same e = same steps s e
one_line (Bad row) number rest more steps s same e = absurd (cc)
one_line (Steps hist body) number (Fails at row) more steps s same e = absurd (cc)
one_line (Steps hist body) number (Reads zs) more steps s same e =
    let one : Numbered = record { line = number; hist = hist; body = body } in
    let whole : one ∷ zs ≡ steps = cc in
    same_rest (step booking_meaning s hist body) number more (run_from booking_meaning zs) (λ t. same zs t refl)
    ∙ ap (λ (z : List Numbered). run_from booking_meaning z s) whole

-- the lines' steps are those that they are judged to be
pub run_lines-judged : (lines : List (List ℕ)) (number : ℕ) (steps : List Numbered) (s : Server Amounts) → judge number lines ≡ Reads steps
    → run_lines number lines s ≡ run_from booking_meaning steps s
run_lines-judged [] number steps s e = let none : [] ≡ steps = cc in ap (λ (z : List Numbered). run_from booking_meaning z s) none
run_lines-judged (l ∷ ls) number steps s e =
    one_line (line_of l) number (judge (number + 1) ls) (run_lines (number + 1) ls) steps s (λ zs t h. run_lines-judged ls (number + 1) zs t h) e

-- an input that is all steps is answered by them
pub by_judgement : (lines : List (List ℕ)) (j : Judged) (count : ℕ) → judge 1 lines ≡ j → steps_in j ≡ Ok count
    → answer_judged j ≡ answer_run (run_lines 1 lines (opening_server booking_meaning)) count
by_judgement lines (Fails line row) count e c = absurd (cc)
by_judgement lines (Reads steps) count e c =
    let same : length steps ≡ count = cc in
    ap (λ (o : Outcome). answer_run o (length steps)) (sym (run_lines-judged lines 1 steps (opening_server booking_meaning) e))
    ∙ ap (answer_run (run_lines 1 lines (opening_server booking_meaning))) same
