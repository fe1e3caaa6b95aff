-- What was told of an input so far, and what is left of it.
use Rattle.std.proofs.Common.{◌≡◌, ℕ, ◌+◌, List, [], ◌∷◌, ◌++◌, Option, None, Some, Result, Ok, Err, IfOk, IfErr, refl, sym, ap, subst, ◌∙◌, append-nil, arith}
use Rattle.server_model.specs.Backends.{Amounts}
use Rattle.server_model.specs.Server.{Server, opening_server}
use Rattle.server_model.specs.Single.{booking_meaning, Line, Bad, line_of, lines_of, Judged, Reads, Fails, judge, judged, judgement, Outcome, steps_line}
use Rattle.aegean_main.specs.Answer.{ended_with, answer_judged}
use Rattle.aegean_main.specs.Counting.{steps_in, counted}
use Rattle.aegean_main.specs.Running.{run_lines, IsSteps, GoesOn, IsRefused, TakesLine, told_with, IsBadLine, Stops}
use Rattle.aegean_main.specs.declared.run.LineErr.{LineErr}
use Rattle.aegean_main.specs.declared.run.LineErr.TheVariants as errs
use Rattle.aegean_main.specs.declared.run.RunErr.{RunErr}
use Rattle.aegean_main.specs.declared.run.RunErr.TheVariants as runs
use Rattle.aegean_main.specs.declared.run.Telling.{Telling}
use Rattle.aegean_main.proofs.AnswerLaws.{by_judgement}

-- so many steps were made and told this text, and these lines are left to a server
pub record Stands (input : List ℕ) (lines : List (List ℕ)) (number count : ℕ) (s : Server Amounts) (text : List ℕ) : Type 0 where
  pub counts : steps_in (judgement input) ≡ counted count (steps_in (judge number lines))
  pub told : (run_lines 1 (lines_of input) (opening_server booking_meaning)).text ≡ text ++ (run_lines number lines s).text
  pub stopped : (run_lines 1 (lines_of input) (opening_server booking_meaning)).refused ≡ (run_lines number lines s).refused

counted-none : (r : Result ℕ (ℕ × ℕ)) → r ≡ counted 0 r
counted-none (Ok more) = ap (λ (n : ℕ). Ok n) (omega arith)
counted-none (Err bad) = refl

counted-more : (a b : ℕ) (r : Result ℕ (ℕ × ℕ)) → counted a (counted b r) ≡ counted (a + b) r
counted-more a b (Ok more) = ap (λ (n : ℕ). Ok n) (omega arith)
counted-more a b (Err bad) = refl

-- before the first line
pub stands_first : (input : List ℕ) → Stands input (lines_of input) 1 0 (opening_server booking_meaning) []
stands_first input = record { counts = counted-none (steps_in (judgement input)); told = refl; stopped = refl }

-- a line is so many steps
counts_on : (total : Result ℕ (ℕ × ℕ)) (lines : List (List ℕ)) (line : List ℕ) (more : List (List ℕ)) (number count steps : ℕ)
    → lines ≡ line ∷ more → IsSteps steps (line_of line) → total ≡ counted count (steps_in (judge number lines))
    → total ≡ counted (count + steps) (steps_in (judge (number + 1) more))
counts_on total lines line more number count steps e is_steps c =
    c ∙ ap (λ (z : List (List ℕ)). counted count (steps_in (judge number z))) e ∙ ap (counted count) (is_steps number (judge (number + 1) more))
    ∙ counted-more count steps (steps_in (judge (number + 1) more))

-- a line was run
pub stands_on : (input : List ℕ) (lines : List (List ℕ)) (line : List ℕ) (more : List (List ℕ)) (number count steps : ℕ)
    (s t : Server Amounts) (old new : List ℕ)
    → lines ≡ line ∷ more → IsSteps steps (line_of line) → GoesOn (line_of line) s t old new
    → Stands input lines number count s old → Stands input more (number + 1) (count + steps) t new
stands_on input lines line more number count steps s t old new e is_steps on stands = record {
  counts = counts_on (steps_in (judgement input)) lines line more number count steps e is_steps stands.counts;
  told = stands.told ∙ ap (λ (z : List (List ℕ)). old ++ (run_lines number z s).text) e ∙ (on number (run_lines (number + 1) more)).0;
  stopped = stands.stopped ∙ ap (λ (z : List (List ℕ)). (run_lines number z s).refused) e ∙ (on number (run_lines (number + 1) more)).1;
}

-- an input whose lines are all steps is answered by what they tell
answered : (input : List ℕ) (count : ℕ) (text : List ℕ) (refused : Option (ℕ × ℕ)) → steps_in (judgement input) ≡ Ok count
    → (run_lines 1 (lines_of input) (opening_server booking_meaning)).text ≡ text
    → (run_lines 1 (lines_of input) (opening_server booking_meaning)).refused ≡ refused
    → answer_judged (judgement input) ≡ ended_with text refused count
answered input count text refused e t r =
    by_judgement (lines_of input) (judgement input) count refl e
    ∙ ap (λ (z : List ℕ). ended_with z (run_lines 1 (lines_of input) (opening_server booking_meaning)).refused count) t
    ∙ ap (λ (z : Option (ℕ × ℕ)). ended_with text z count) r

-- no line is left
pub stands_last : (input : List ℕ) (lines : List (List ℕ)) (number count : ℕ) (s : Server Amounts) (text whole : List ℕ)
    → lines ≡ [] → Stands input lines number count s text → whole ≡ text ++ steps_line count → answer_judged (judgement input) ≡ told_with whole None
stands_last input lines number count s text whole e stands w =
    let all : steps_in (judgement input) ≡ Ok count =
    stands.counts ∙ ap (λ (z : List (List ℕ)). counted count (steps_in (judge number z))) e ∙ ap (λ (n : ℕ). Ok n) (omega arith) in
    answered input count text None all (stands.told ∙ ap (λ (z : List (List ℕ)). text ++ (run_lines number z s).text) e ∙ append-nil text)
    (stands.stopped ∙ ap (λ (z : List (List ℕ)). (run_lines number z s).refused) e)
    ∙ ap (λ (z : List ℕ). told_with z None) (sym w)

fails : (j : Judged) (line row : ℕ) → steps_in j ≡ Err (line, row) → j ≡ Fails line row
fails (Reads steps) line row e = absurd (cc)
fails (Fails at by) line row e = let same : (at, by) ≡ (line, row) = cc in ap (λ (p : ℕ × ℕ). Fails p.0 p.1) same

-- a line is bad
pub stands_bad : (input : List ℕ) (lines : List (List ℕ)) (line : List ℕ) (more : List (List ℕ)) (number count row : ℕ) (s : Server Amounts) (text : List ℕ)
    → lines ≡ line ∷ more → line_of line ≡ Bad row → Stands input lines number count s text → judgement input ≡ Fails number row
stands_bad input lines line more number count row s text e bad stands =
    fails (judgement input) number row
    (stands.counts ∙ ap (λ (z : List (List ℕ)). counted count (steps_in (judge number z))) e
    ∙ ap (λ (z : Line). counted count (steps_in (judged number z (judge (number + 1) more)))) bad)

-- a step is refused, and the lines behind it are judged
pub stands_stopped : (input : List ℕ) (lines : List (List ℕ)) (line : List ℕ) (more : List (List ℕ))
    (number count row : ℕ) (s : Server Amounts) (old new : List ℕ) (r : Result Telling RunErr)
    → lines ≡ line ∷ more → IsSteps 1 (line_of line) → IsRefused (line_of line) s row → new ≡ old → Stands input lines number count s old
    → Stops (judge (number + 1) more) new number row r → IfOk r (λ telling. answer_judged (judgement input) ≡ told_with telling.text.items telling.refused)
stands_stopped input lines line more number count row s old new (Err error) e is_step is_refused same stands stops = tt
stands_stopped input lines line more number count row s old new (Ok telling) e is_step is_refused same stands stops =
    let all : steps_in (judgement input) ≡ Ok ((count + 1) + stops.0) =
    counts_on (steps_in (judgement input)) lines line more number count 1 e is_step stands.counts ∙ ap (counted (count + 1)) stops.1.0 in
    answered input ((count + 1) + stops.0) old (Some (number, row)) all
    (stands.told ∙ ap (λ (z : List (List ℕ)). old ++ (run_lines number z s).text) e
    ∙ ap (λ (z : Outcome). old ++ z.text) (is_refused number (run_lines (number + 1) more)) ∙ append-nil old)
    (stands.stopped ∙ ap (λ (z : List (List ℕ)). (run_lines number z s).refused) e
    ∙ ap (λ (z : Outcome). z.refused) (is_refused number (run_lines (number + 1) more)))
    ∙ ap (λ (z : List ℕ). told_with z (Some (number, row))) (sym same ∙ sym stops.1.1.0)
    ∙ ap (λ (z : Option (ℕ × ℕ)). told_with telling.text.items z) (sym stops.1.1.1)

-- and one of them is bad
pub stands_bad_behind : (input : List ℕ) (lines : List (List ℕ)) (line : List ℕ) (more : List (List ℕ))
    (number count row : ℕ) (s : Server Amounts) (old new : List ℕ) (r : Result Telling RunErr)
    → lines ≡ line ∷ more → IsSteps 1 (line_of line) → Stands input lines number count s old
    → Stops (judge (number + 1) more) new number row r → IfErr r (IsBadLine (judgement input))
stands_bad_behind input lines line more number count row s old new (Ok telling) e is_step stands stops = tt
stands_bad_behind input lines line more number count row s old new (Err runs.Memory) e is_step stands stops = tt
stands_bad_behind input lines line more number count row s old new (Err (runs.Bad bad)) e is_step stands stops =
    fails (judgement input) bad.line bad.row
    (counts_on (steps_in (judgement input)) lines line more number count 1 e is_step stands.counts
    ∙ ap (λ (j : Judged). counted (count + 1) (steps_in j)) stops)

-- BY WHAT A LINE'S RUN ANSWERED

pub bad_line : (input : List ℕ) (lines : List (List ℕ)) (line : List ℕ) (more : List (List ℕ))
    (number count row shown : ℕ) (s t : Server Amounts) (old new : List ℕ) (error : LineErr)
    → lines ≡ line ∷ more → error ≡ errs.Bad row → row ≡ shown → TakesLine (line_of line) s t old new (Err error)
    → Stands input lines number count s old → judgement input ≡ Fails number shown
bad_line input lines line more number count row shown s t old new (errs.Bad at) e is r takes stands =
    let same : at ≡ row = cc in
    stands_bad input lines line more number count at s old e takes stands ∙ ap (λ (z : ℕ). Fails number z) (same ∙ r)
bad_line input lines line more number count row shown s t old new (errs.Illegal at) e is r takes stands = absurd (cc)
bad_line input lines line more number count row shown s t old new errs.Memory e is r takes stands = absurd (cc)

-- the step of a line was refused by this row
abbrev pub WasRefused : List ℕ → Server Amounts → List ℕ → List ℕ → ℕ → Type 0
WasRefused line s old new row = IsSteps 1 (line_of line) × (IsRefused (line_of line) s row × (new ≡ old))

pub was_refused : (line : List ℕ) (row shown : ℕ) (s t : Server Amounts) (old new : List ℕ) (error : LineErr)
    → error ≡ errs.Illegal row → row ≡ shown → TakesLine (line_of line) s t old new (Err error) → WasRefused line s old new shown
was_refused line row shown s t old new (errs.Bad at) is r takes = absurd (cc)
was_refused line row shown s t old new (errs.Illegal at) is r takes =
    let same : at ≡ row = cc in
    subst (λ (z : ℕ). WasRefused line s old new z) (same ∙ r) takes
was_refused line row shown s t old new errs.Memory is r takes = absurd (cc)
