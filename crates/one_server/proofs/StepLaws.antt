-- A step of the one server, from what its parts come to.
use Rattle.std.proofs.Common.{◌≡◌, ℕ, ◌+◌, Bool, List, [], Option, None, Some, if◌then◌else◌, sym, ap, subst, ◌∙◌}
use Rattle.std.proofs.lemmas.Bool.{eq-eqb}
use Rattle.std.specs.declared.result.Result.{Result}
use Rattle.aeg_base.specs.Store.{Store}
use Rattle.aeg_base.specs.declared.names.ReqId.{ReqId}
use Rattle.svc_api.specs.Segment.{Segment}
use Rattle.server_model.specs.Server.{Meaning, Server, Step, Refused, last_of, progress_of, code_of, starts, start, ended, goes_on, resumes, resume, step}
use Rattle.server_model.specs.declared.history.Hist.TheVariants.{Start, Resume}
use Rattle.server_model.specs.declared.history.Told.{Told}
use Rattle.server_model.specs.declared.progress.Progress.{Progress}
use Rattle.one_server.specs.Steps.{Answers}
use Rattle.one_server.specs.Writes.{Runs, after}
use Rattle.one_server.specs.declared.refusal.StepErr.{StepErr}
use Rattle.one_server.specs.declared.stage.Ran.{Ran}

started : {B : Type 0} (s : Server B) (who : ReqId) (body : List ℕ) (number : ℕ) (row : Option (Option ℕ → Store → Segment)) (ran : Ran)
    → Runs row None s.store (Some ran) → starts s who body number row ≡ ended s who body number (after s.store ran.writes.items) ran.ending
started s who body number None ran h = absurd h
started s who body number (Some segment) ran h = λ i. ended s who body number (h.1 i) (h.0 i)

-- a start that is the client's next, while it has none in progress, ends as its segment does
pub start_ends : {B : Type 0} (m : Meaning B) (s new : Server B) (who : ReqId) (number : ℕ) (body : List ℕ) (ran : Ran) (result : Result Told StepErr)
    → who.seq ≡ last_of s who.client + 1 → progress_of s who.client ≡ None → Runs (m.table who body 0) None s.store (Some ran)
    → Answers (ended s who body number (after s.store ran.writes.items) ran.ending) s new result → Answers (step m s (Start who number) body) s new result
start_ends {B} m s new who number body ran result next free runs h =
    let same : step m s (Start who number) body ≡ ended s who body number (after s.store ran.writes.items) ran.ending =
    ap (λ (b : Bool). if b then start m s who number body (progress_of s who.client) else Refused 1) (eq-eqb who.seq (last_of s who.client + 1) next)
    ∙ ap (λ (p : Option Progress). start m s who number body p) free
    ∙ started s who body number (m.table who body 0) ran runs in
    subst (λ (t : Step B). Answers t s new result) (sym same) h

resumed : {B : Type 0} (s : Server B) (who : ReqId) (body : List ℕ) (number code : ℕ) (row : Option (Option ℕ → Store → Segment)) (ran : Ran)
    → Runs row (Some code) s.store (Some ran) → goes_on s who body number code row ≡ ended s who body number (after s.store ran.writes.items) ran.ending
resumed s who body number code None ran h = absurd h
resumed s who body number code (Some segment) ran h = λ i. ended s who body number (h.1 i) (h.0 i)

-- a request in progress whose call was served goes on, and ends as its segment does
pub resume_ends : {B : Type 0} (m : Meaning B) (s new : Server B) (who : ReqId) (number : ℕ) (progress : Progress)
    (body : List ℕ) (code : ℕ) (ran : Ran) (result : Result Told StepErr)
    → progress_of s who.client ≡ Some progress → progress.seq ≡ who.seq → body ≡ progress.body → code_of s progress.tier progress.number ≡ Some code
    → Runs (m.table who body progress.stage) (Some code) s.store (Some ran)
    → Answers (ended s who body number (after s.store ran.writes.items) ran.ending) s new result → Answers (step m s (Resume who number) []) s new result
resume_ends {B} m s new who number progress body code ran result there same_seq text served runs h =
    let same : step m s (Resume who number) [] ≡ ended s who body number (after s.store ran.writes.items) ran.ending =
    ap (λ (p : Option Progress). resume m s who number p) there
    ∙ ap (λ (b : Bool). if b then resumes m s who number progress (code_of s progress.tier progress.number) else Refused
    5) (eq-eqb progress.seq who.seq same_seq)
    ∙ ap (λ (o : Option ℕ). resumes m s who number progress o) served
    ∙ ap (λ (b : List ℕ). goes_on s who b number code (m.table who b progress.stage)) (sym text)
    ∙ resumed s who body number code (m.table who body progress.stage) ran runs in
    subst (λ (t : Step B). Answers t s new result) (sym same) h
