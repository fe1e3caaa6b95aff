-- What `single` answers to an input, and the text that goes out for it.
use Rattle.std.specs.Prelude.{ℕ, ◌++◌, List, [], length, nat_lt, Option, None, Some, if◌then◌else◌}
use Rattle.aeg_base.specs.declared.limits.TheConstants.{INPUT_BYTES, INPUT_LINES}
use Rattle.server_model.specs.Single.{lines_of, Judged, Reads, Fails, judgement, Outcome, run_of, steps_line}
use Rattle.aegean_main.specs.declared.status.LimitKind.TheVariants as limits
use Rattle.aegean_main.specs.declared.status.Status.{Status}
use Rattle.aegean_main.specs.declared.status.Status.TheVariants.{Done, Script, Limit, Illegal}

-- how a call ends, and all that it writes
pub record Answer : Type 0 where
  pub status : Status
  pub text : List ℕ

-- refused before the first step
abbrev pub refused_with : Status → Answer
refused_with status = record { status = status; text = [] }

-- After all steps comes the line that counts them. After an illegal step the text of the steps before it stands.
abbrev pub ended_with : List ℕ → Option (ℕ × ℕ) → ℕ → Answer
ended_with text None count = record { status = Done; text = text ++ steps_line count }
ended_with text (Some at) count = record { status = Illegal at.0 at.1; text = text }

abbrev pub answer_run : Outcome → ℕ → Answer
answer_run outcome count = ended_with outcome.text outcome.refused count

abbrev pub answer_judged : Judged → Answer
answer_judged (Fails line row) = refused_with (Script line row)
answer_judged (Reads steps) = answer_run (run_of steps) (length steps)

-- The limits on bytes and lines come first, then the grammar of the whole input, then the steps.
abbrev pub answer_of : List ℕ → Answer
answer_of input =
    if nat_lt INPUT_BYTES (length input) then refused_with (Limit limits.Bytes)
    else if nat_lt INPUT_LINES (length (lines_of input)) then refused_with (Limit limits.Lines)
    else answer_judged (judgement input)
