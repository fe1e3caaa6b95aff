-- What the statuses say, case by case.
use Rattle.std.proofs.Common.{◌≡◌, ℕ, ◌<◌, ◌≤◌, ◌⊎◌, inl, inr, List, [], ◌∷◌, ◌++◌, Option, None, Some, IfSome, refl}
use Rattle.std.proofs.Common.{sym, ap, subst, ◌∙◌, length, length-append, Bool, true, false, cond, nat_lt, get_or, map}
use Rattle.std.proofs.Common.{IsTrue, arith}
use Rattle.std.specs.Str.{bytes_eq}
use Rattle.std.proofs.lemmas.Slice.Eq.{bytes_eq-Decides}
use Rattle.std.specs.Io.KnownBytes.{Consumes}
use Rattle.aeg_base.specs.declared.limits.TheConstants.{INPUT_BYTES, INPUT_LINES}
use Rattle.aeg_io.specs.Bytes.{Gains}
use Rattle.aeg_io.proofs.Gained.{Gains-nil}
use Rattle.server_model.specs.Backends.{Amounts}
use Rattle.server_model.specs.Server.{Server, Step, Refused, Goes, opening_server, step}
use Rattle.server_model.specs.History.{IsMade, LegalFrom, Legal, server_or, told_by, told_from, told}
use Rattle.server_model.specs.Single.{booking_meaning, lines_of, Judged, Reads, Fails, judgement, history_of, Outcome}
use Rattle.server_model.specs.Single.{goes_on_with, run_from, run_of, told_line, steps_line}
use Rattle.server_model.specs.declared.history.Numbered.{Numbered}
use Rattle.server_model.specs.declared.history.Told.{Told}
use Rattle.aegean_main.specs.Answer.{Answer, refused_with, ended_with, answer_judged, answer_of}
use Rattle.aegean_main.specs.Top.{Follows, TellsHistory, told_lines}
use Rattle.aegean_main.proofs.AnswerLaws.{answer_of-bytes}
use Rattle.aegean_main.specs.declared.status.LimitKind.TheVariants as limits
use Rattle.aegean_main.specs.declared.status.Status.{Status}
use Rattle.aegean_main.specs.declared.status.Status.TheVariants.{Done, Usage, Script, Plan, ReadFault, WriteFault, Limit, Illegal, Memory}

-- FROM THE RUN

-- the same answer
pub follows_same : (a b : Answer) (old new : Option (List ℕ)) (status : Status) → a ≡ b → Follows b old new status → Follows a old new status
follows_same a b old new status e f = let Q : Answer → Type 0 = λ z. Follows z old new status in subst Q (sym e) f

-- FROM THE SOURCE

pub if_told : (left : Option (List ℕ)) (P : List ℕ → Type 0) → ((input : List ℕ) → P input) → IfSome left P
if_told None P f = tt
if_told (Some input) P f = f input

pub read_whole : (left : Option (List ℕ)) (bytes : List ℕ) (P : List ℕ → Type 0) → IfSome left (λ input. bytes ≡ input) → P bytes → IfSome left P
read_whole None bytes P e p = tt
read_whole (Some input) bytes P e p = subst P e p

pub read_too_long : (left rest : Option (List ℕ)) (out : Option (List ℕ)) (came : List ℕ) → Consumes left rest came → INPUT_BYTES < length came
    → IfSome left (λ input. Follows (answer_of input) out out (Limit limits.Bytes))
read_too_long None rest out came c h = tt
read_too_long (Some input) None out came c h = absurd c
read_too_long (Some input) (Some behind) out came c h =
    let long : INPUT_BYTES < length input = omega (arith, ap length c, length-append came behind, h) in
    let Q : Answer → Type 0 = λ z. Follows z out out (Limit limits.Bytes) in
    subst Q (sym (answer_of-bytes input long)) (refl, Gains-nil out)

-- WITHOUT A FAULT

same_or_memory : (answer : Answer) (old new : Option (List ℕ)) (F G : Type 0) (status : Status) → (F → ⊥) → (G → ⊥)
    → (status ≡ ReadFault → F) → (status ≡ WriteFault → G)
    → Follows answer old new status → (status ≡ answer.status) ⊎ (status ≡ Memory)
same_or_memory answer old new F G ReadFault no_read no_write read write f = absurd (no_read (read refl))
same_or_memory answer old new F G WriteFault no_read no_write read write f = absurd (no_write (write refl))
same_or_memory answer old new F G Memory no_read no_write read write f = inr refl
same_or_memory answer old new F G Done no_read no_write read write f = inl (sym f.0)
same_or_memory answer old new F G Usage no_read no_write read write f = inl (sym f.0)
same_or_memory answer old new F G (Script line row) no_read no_write read write f = inl (sym f.0)
same_or_memory answer old new F G (Plan row) no_read no_write read write f = inl (sym f.0)
same_or_memory answer old new F G (Limit kind) no_read no_write read write f = inl (sym f.0)
same_or_memory answer old new F G (Illegal line row) no_read no_write read write f = inl (sym f.0)

pub answered : (left old new : Option (List ℕ)) (F G : Type 0) (status : Status) → (F → ⊥) → (G → ⊥) → (status ≡ ReadFault → F) → (status ≡ WriteFault → G)
    → IfSome left (λ input. Follows (answer_of input) old new status) → IfSome left (λ input. (status ≡ (answer_of input).status) ⊎ (status ≡ Memory))
answered None old new F G status no_read no_write read write f = tt
answered (Some input) old new F G status no_read no_write read write f = same_or_memory (answer_of input) old new F G status no_read no_write read write f

-- THE HISTORY

made : (st : Step Amounts) (number : ℕ) (rest : Server Amounts → Outcome) (L : Server Amounts → Type 0) (s : Server Amounts)
    → ((t : Server Amounts) → (rest t).refused ≡ None → L t) → (goes_on_with st number rest).refused ≡ None → IsMade st × L (server_or s st)
made (Refused row) number rest L s same e = absurd (cc)
made (Goes new told) number rest L s same e = (tt, same new e)

pub run_from-legal : (steps : List Numbered) (s : Server Amounts) → (run_from booking_meaning steps s).refused ≡ None
    → LegalFrom booking_meaning (history_of steps) s
run_from-legal [] s e = tt
run_from-legal (x ∷ xs) s e =
    made (step booking_meaning s x.hist x.body) x.line (run_from booking_meaning xs)
    (LegalFrom booking_meaning (history_of xs)) s (λ t h. run_from-legal xs t h) e

tells : (st : Step Amounts) (number : ℕ) (rest : Server Amounts → Outcome) (T : Server Amounts → List Told) (s : Server Amounts)
    → ((t : Server Amounts) → (rest t).refused ≡ None → (rest t).text ≡ told_lines (T t)) → (goes_on_with st number rest).refused ≡ None
    → (goes_on_with st number rest).text ≡ told_lines (told_by st ++ T (server_or s st))
tells (Refused row) number rest T s same e = absurd (cc)
tells (Goes new told) number rest T s same e = ap (λ (z : List ℕ). told_line told ++ z) (same new e)

pub run_from-told : (steps : List Numbered) (s : Server Amounts) → (run_from booking_meaning steps s).refused ≡ None
    → (run_from booking_meaning steps s).text ≡ told_lines (told_from booking_meaning (history_of steps) s)
run_from-told [] s e = refl
run_from-told (x ∷ xs) s e =
    tells (step booking_meaning s x.hist x.body) x.line (run_from booking_meaning xs)
    (told_from booking_meaning (history_of xs)) s (λ t h. run_from-told xs t h) e

-- the input is steps that are all made, and this is their text
abbrev Tells : List ℕ → List ℕ → Type 0
Tells input text = (steps : List Numbered) × ((judgement input ≡ Reads steps) × (Legal booking_meaning (history_of steps)
    × (text ≡ told_lines (told booking_meaning (history_of steps)) ++ steps_line (length steps))))

ended_well : (text : List ℕ) (refused : Option (ℕ × ℕ)) (count : ℕ) → (ended_with text refused count).status ≡ Done → refused ≡ None
ended_well text None count d = refl
ended_well text (Some at) count d = absurd (cc)

judged_well : (input : List ℕ) (j : Judged) → judgement input ≡ j → (answer_judged j).status ≡ Done → Tells input (answer_judged j).text
judged_well input (Fails line row) e d = absurd (cc)
judged_well input (Reads steps) e d =
    let none : (run_of steps).refused ≡ None = ended_well (run_of steps).text (run_of steps).refused (length steps) d in (
      steps,
      (
        e,
        (
          run_from-legal steps (opening_server booking_meaning) none,
          ap (λ (r : Option (ℕ × ℕ)). (ended_with (run_of steps).text r (length steps)).text) none
              ∙ ap (λ (z : List ℕ). z ++ steps_line (length steps)) (run_from-told steps (opening_server booking_meaning) none),
        ),
      ),
    )

passes : (b : Bool) (x y : Answer) → (x.status ≡ Done → ⊥) → (cond b x y).status ≡ Done → cond b x y ≡ y
passes true x y n d = absurd (n d)
passes false x y n d = refl

done_well : (input : List ℕ) → (answer_of input).status ≡ Done → Tells input (answer_of input).text
done_well input d =
    let first : answer_of input ≡ cond (nat_lt INPUT_LINES (length (lines_of input))) (refused_with (Limit limits.Lines)) (answer_judged (judgement input)) =
    passes (nat_lt INPUT_BYTES (length input)) (refused_with (Limit limits.Bytes))
    (cond (nat_lt INPUT_LINES (length (lines_of input))) (refused_with (Limit limits.Lines))
    (answer_judged (judgement input))) (λ e. absurd (cc)) d in
    let D : Answer → Type 0 = λ z. z.status ≡ Done in
    let second : answer_of input ≡ answer_judged (judgement input) =
    first ∙ passes (nat_lt INPUT_LINES (length (lines_of input))) (refused_with (Limit limits.Lines))
    (answer_judged (judgement input)) (λ e. absurd (cc)) (subst D first d) in
    let P : Answer → Type 0 = λ z. Tells input z.text in
    subst P (sym second) (judged_well input (judgement input) refl (subst D second d))

tells_history : (input : List ℕ) (old new : Option (List ℕ)) → Follows (answer_of input) old new Done → TellsHistory input old new
tells_history input old new f =
    let t = done_well input f.0 in
    let P : List ℕ → Type 0 = λ z. Gains old new z in
    (t.0, (t.1.0, (t.1.1.0, subst P t.1.1.1 f.1)))

pub told_history : (left old new : Option (List ℕ)) (status : Status) → IfSome left (λ input. Follows (answer_of input) old new status) → status ≡ Done
    → IfSome left (λ input. TellsHistory input old new)
told_history None old new status f e = tt
told_history (Some input) old new status f e = let P : Status → Type 0 = λ z. Follows (answer_of input) old new z in tells_history input old new (subst P e f)

-- THE COMMAND LINE

one_word : {X : Type 0} (f : X → List ℕ) (words : List X) (word : X) → 1 ≤ length words → length words < 2
    → word ≡ get_or words 0 word → map f words ≡ f word ∷ []
one_word f [] word some few e = absurd (omega arith)
one_word f (x ∷ []) word some few e = ap (λ z. f z ∷ []) (sym e)
one_word f (x ∷ y ∷ zs) word some few e = absurd (omega arith)

pub is_one_word : {X : Type 0} (f : X → List ℕ) (words : List X) (word : X) (text read : List ℕ) (b : Bool)
    → 1 ≤ length words → length words < 2 → word ≡ get_or words 0 word
    → read ≡ f word → b ≡ bytes_eq read text → (IsTrue b → map f words ≡ text ∷ []) × (map f words ≡ text ∷ [] → IsTrue b)
is_one_word f words word text read b some few e r t =
    let one = one_word f words word some few e in
    let decides = bytes_eq-Decides read text in
    let word_is : map f words ≡ read ∷ [] = one ∙ ap (λ (z : List ℕ). z ∷ []) (sym r) in
    (λ h. word_is ∙ ap (λ (z : List ℕ). z ∷ []) (decides.0 (sym t ∙ h)), λ h. let same : read ≡ text = cc in t ∙ decides.1 same)
