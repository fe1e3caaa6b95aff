-- The segments of a job begin well, by the table.
use Rattle.std.proofs.Common.{◌≡◌, ℕ, List, [], ◌∷◌, refl, sym, subst, Option, Some, None, map}
use Rattle.std.specs.Prelude.{IsSome}
use Rattle.std.specs.List.{All}
use Rattle.std.proofs.lemmas.List.Elements.{All-nil, All-cons}
use Rattle.aeg_base.specs.Store.{Store}
use Rattle.aeg_base.specs.declared.names.ReqId.{ReqId}
use Rattle.svc_api.specs.Segment.{Segment, Beginning, Folds}
use Rattle.exec_model.specs.declared.job.Seg.{Seg}
use Rattle.exec_core.specs.Jobs.{BeginsWell}
use Rattle.log_model.proofs.Basics.{Every}
use Rattle.round_model.specs.Service.{Programs}
use Rattle.round_model.specs.Tables.{Want}
use Rattle.pipeline.specs.Jobs.{unanswered, asks_for}
use Rattle.row_laws.proofs.Wanted.{who_wants, IsWantIn}

begun : (o : Option Beginning) (row : Option (Option ℕ → Store → Segment)) → Folds o row → IsSome row → IsSome o
begun None None h k = k
begun None (Some row) h k = absurd h
begun (Some b) row h k = refl

pub one_begins : (m : Programs) (w : Want) (j : Seg) → Folds (m.begins (who_wants w) w.body w.stage) (m.table (who_wants w) w.body w.stage)
    → IsWantIn m w → unanswered j ≡ asks_for w → BeginsWell m.begins j
one_begins m w j folds k e = subst (λ (z : Seg). BeginsWell m.begins (record { who = z.who; body = z.body; stage = z.stage; answer = j.answer })) (sym e)
    (record { request = k.asks; has_stage = begun (m.begins (who_wants w) w.body w.stage) (m.table (who_wants w) w.body w.stage) folds k.stage })

-- each segment is what is wanted, whatever its answer
pub all_begin : (m : Programs) (ws : List Want) (js : List Seg)
    → ((who : ReqId) (body : List ℕ) (stage : ℕ) → Folds (m.begins who body stage) (m.table who body stage))
    → Every (IsWantIn m) ws → map unanswered js ≡ map asks_for ws → All (BeginsWell m.begins) js
all_begin m [] [] folds k e = All-nil (BeginsWell m.begins)
all_begin m [] (j ∷ js) folds k e = absurd (cc)
all_begin m (w ∷ ws) [] folds k e = absurd (cc)
all_begin m (w ∷ ws) (j ∷ js) folds k e =
    let one : unanswered j ≡ asks_for w = cc in
    let rest : map unanswered js ≡ map asks_for ws = cc in
    All-cons (BeginsWell m.begins) j js (one_begins m w j (folds (who_wants w) w.body w.stage) k.0 one) (all_begin m ws js folds k.1 rest)
