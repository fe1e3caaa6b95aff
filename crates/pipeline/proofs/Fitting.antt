-- Ends that fit, by wants and by segments.
use Rattle.std.proofs.Common.{◌≡◌, Bool, true, false, ◌&&◌, List, [], ◌∷◌, map, length, refl, ap, suc}
use Rattle.svc_api.specs.declared.action.Ending.{Ending}
use Rattle.svc_api.specs.declared.action.Ending.TheVariants.{Reply, Call}
use Rattle.exec_model.specs.declared.job.Seg.{Seg}
use Rattle.round_model.specs.Service.{Programs, Table}
use Rattle.round_model.specs.Settling.{fit, fits}
use Rattle.round_model.specs.Tables.{Want}
use Rattle.pipeline.specs.Jobs.{unanswered, asks_for, goes_on, all_go_on}

pub uneven : (table : Table) (js : List Seg) (es : List Ending) → (length es ≡ length js → ⊥) → all_go_on table js es ≡ false
uneven table [] [] h = absurd (h refl)
uneven table [] (e ∷ es) h = refl
uneven table (j ∷ js) [] h = refl
uneven table (j ∷ js) (e ∷ es) h = at (goes_on table j e) (uneven table js es (λ k. h (ap suc k)))
  where
    at : (b : Bool) → all_go_on table js es ≡ false → (b && all_go_on table js es) ≡ false
    at true k = k
    at false k = refl

fit_is : (m : Programs) (w : Want) (j : Seg) (e : Ending) → unanswered j ≡ asks_for w → fit m w e ≡ goes_on m.table j e
fit_is m w j (Reply text) h = refl
fit_is m w j (Call t stage text) h =
    let who : j.who ≡ record { client = w.client; seq = w.seq } = ap (λ (z : Seg). z.who) h in
    let body : j.body ≡ w.body = ap (λ (z : Seg). z.body) h in rw (who, body) refl

pub fits_is : (m : Programs) (ws : List Want) (js : List Seg) (es : List Ending) → map unanswered js ≡ map asks_for ws → fits m ws es ≡ all_go_on m.table js es
fits_is m [] [] [] h = refl
fits_is m [] [] (e ∷ es) h = refl
fits_is m [] (j ∷ js) es h = absurd (cc)
fits_is m (w ∷ ws) [] es h = absurd (cc)
fits_is m (w ∷ ws) (j ∷ js) [] h = refl
fits_is m (w ∷ ws) (j ∷ js) (e ∷ es) h =
    let one : unanswered j ≡ asks_for w = cc in let rest : map unanswered js ≡ map asks_for ws = cc in
    rw (fit_is m w j e one) (rw (fits_is m ws js es rest) refl)
